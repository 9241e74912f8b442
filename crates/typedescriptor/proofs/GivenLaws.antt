-- What a loop over the slots that writes a record for each row needs (`Going`: `start-going`, `passes`, `goes_on`, and at its end `full` or
-- `ended`), whatever a record has; and that a call from the slot to go on from gives what one call with more room gives (`going_on`), and
-- in the end all rows (`all-given`).
use Rattle.std.specs.Prelude.{◌≡◌, ℕ, zero, suc, ◌+◌, ◌-◌, ◌<◌, ◌≤◌, max, Bool, true, false, List, [], ◌∷◌, ◌++◌, length, take, drop, Option, Some, None}
use Rattle.std.proofs.Math.Decide.{dec_lt}
use native.Mathlib.Omega.{arith}
use Rattle.std.proofs.Math.Path.{refl}
use Rattle.std.proofs.Common.{sym, ◌∙◌, ap, append_assoc, append-nil, length-append, take-append-drop, drop-drop, take_at, drop_at, length-take-le, le-leb}
use Rattle.std.proofs.lemmas.Bool.{lt-leb}
use Rattle.util.proofs.AnswersLaws.{told}
use Rattle.util.specs.Buffer.{pasted, at_start}
use Rattle.util.proofs.BufferLaws.{put_length}
use Rattle.segment.specs.Mapping.{TrueMapping}
use Rattle.segment.specs.declared.segment.Mapping.{Mapping}
use Rattle.runtime.specs.Reads.{run}
use Rattle.typedescriptor.specs.Row.{TypeRow, row_of, descriptor_of}
use Rattle.typedescriptor.specs.Slots.{slots, slot_row, Found, found, rows_from}
use Rattle.typedescriptor.proofs.SlotsLaws.{slot_left, slot_without, rows_out}
use Rattle.typedescriptor.specs.Moving.{RowMoved}
use Rattle.typedescriptor.specs.Given.{RowRecord, RowsGiven, stops_at, record_then, given_in, rows_given}
use Rattle.typedescriptor.specs.declared.descriptor.Row.{Row}

-- ---- one row

module _ (recordOf : RowRecord) (past : ℕ) (f : Found) (fs : List Found) (room : ℕ) where
  pub row_fits : length (recordOf f.slot f.row) ≤ room
      → given_in recordOf past (f ∷ fs) room ≡ record_then (recordOf f.slot f.row) (given_in recordOf past fs (room - length (recordOf f.slot f.row)))
  unfolding given_in
  row_fits h = simp (le-leb (length (recordOf f.slot f.row)) room h)

  pub row_full : room < length (recordOf f.slot f.row) → given_in recordOf past (f ∷ fs) room ≡ stops_at f.slot false
  unfolding given_in
  row_full h = simp (lt-leb (length (recordOf f.slot f.row)) room h)

-- ---- row after row, into the buffer `b₀`

module _ (recordOf : RowRecord) (image segments types : List ℕ) (start i₀ : ℕ) (b₀ : List ℕ) where
  -- all that the call gives, and what the rows from a slot on give in the room that is left
  abbrev all : RowsGiven
  all = rows_given recordOf image segments types start i₀ (length b₀)

  abbrev left : ℕ → ℕ → RowsGiven
  left i n = given_in recordOf (max (slots types) i₀) (rows_from image segments types start (slots types - i) i) n

  -- the records of the rows before slot `i` are written and end at `at`; the mapping that is kept is true
  pub record Going (i at : ℕ) (m : Mapping) (b : List ℕ) : Type 0 where
    pub mapped : TrueMapping segments m
    pub from : i₀ ≤ i
    pub to : i ≤ max (slots types) i₀
    pub few : at ≤ length b₀
    pub long : length b ≡ length b₀
    pub rest : drop at b ≡ drop at b₀
    pub goes : all ≡ record_then (take at b) (left i (length b₀ - at))

  pub start_going : (m : Mapping) → TrueMapping segments m → Going i₀ 0 m b₀
  start_going m w =
      let whole : length b₀ ≡ length b₀ - 0 = omega arith in
      record { mapped = w; from = omega arith; to = omega arith; few = omega arith; long = refl; rest = refl; goes = ap (left i₀) whole }

  -- the loop is done: how much is written, where to go on, whether all is given, and the buffer
  pub record Done (at i : ℕ) (e : Bool) (b : List ℕ) : Type 0 where
    pub wrote : at ≡ length all.written
    pub next : i ≡ all.next
    pub whole : e ≡ all.all
    pub holds : b ≡ at_start all.written b₀

  module _ (i at : ℕ) (m : Mapping) (b : List ℕ) (g : Going i at m b) where
    before : length (take at b) ≡ at
    before = length-take-le at b (omega (arith, g.few, g.long))

    stops : (j : ℕ) (e : Bool) → left i (length b₀ - at) ≡ stops_at j e → Done at j e b
    stops j e s =
        let l : all ≡ record { written = take at b; next = j; all = e } = g.goes ∙ rw (s, append-nil) in
        let here : b ≡ at_start (take at b) b₀ = sym (take-append-drop at b) ∙ rw (before, g.rest) in
        record {
          wrote = sym before ∙ ap (λ (x : RowsGiven). length x.written) (sym l);
          next = ap (λ (x : RowsGiven). x.next) (sym l);
          whole = ap (λ (x : RowsGiven). x.all) (sym l);
          holds = here ∙ ap (λ (x : RowsGiven). at_start x.written b₀) (sym l);
        }

    -- no slot is left
    pub ended : slots types ≤ i → Done at i true b
    unfolding given_in
    ended h =
        let past : max (slots types) i₀ ≡ i = omega (arith, g.from, g.to) in
        stops i true (rw (rows_out image segments types start (slots types) i h, past))

    module _ (h : i < slots types) (d : Option Row) (m' : Mapping) (w : RowMoved image segments m types start i d m') where
      -- a slot without a row
      pub passes : d ≡ None → Going (i + 1) at m' b
      passes e =
          record {
            mapped = w.mapped g.mapped;
            from = omega (arith, g.from);
            to = omega arith;
            few = g.few;
            long = g.long;
            rest = g.rest;
            goes = g.goes ∙ rw (slot_without image segments types start i (told (descriptor_of image) (w.row g.mapped) e) h);
          }

      module _ (r : Row) (e : d ≡ Some r) where
        abbrev this : List ℕ
        this = recordOf i (row_of image r)

        next_left : (n : ℕ) → left i n ≡ given_in recordOf (max (slots types) i₀) (found i (row_of image r) ∷ rows_from image segments types start (slots types - (i + 1)) (i + 1)) n
        next_left n = rw (slot_left image segments types start i (row_of image r) (told (descriptor_of image) (w.row g.mapped) e) h)

        -- a row for whose record there is no room
        pub full : length b < at + length this → Done at i false b
        full s = stops i false (next_left _ ∙ row_full recordOf _ (found i (row_of image r)) _ _ (omega (arith, g.few, g.long)))

        -- a row whose record, `p`, is written
        pub goes_on_lem : (p b' : List ℕ) (end : ℕ) → p ≡ this → end ≡ at + length this → end ≤ length b → b' ≡ pasted b at p → Going (i + 1) end m' b'
        goes_on_lem p b' end ep en s eb =
            let new : b' ≡ pasted b at this = eb ∙ ap (pasted b at) ep in
            let both : length (take at b ++ this) ≡ end = length-append (take at b) this ∙ omega (arith, before) in
            let split : b' ≡ (take at b ++ this) ++ drop (at + length this) b = new ∙ sym (append_assoc (take at b) this _) in
            let front : take end b' ≡ take at b ++ this = ap (take end) split ∙ take_at (take at b ++ this) _ end both in
            let back : drop end b' ≡ drop (at + length this) b = ap (drop end) split ∙ drop_at (take at b ++ this) _ end both in
            let room : length b₀ - at - length this ≡ length b₀ - end = omega arith in
            record {
              mapped = w.mapped g.mapped;
              from = omega (arith, g.from);
              to = omega arith;
              few = omega (arith, g.long);
              long = put_length b this b' at end (record { ends = en; holds = new }) (omega arith) ∙ g.long;
              rest = back ∙ sym (drop-drop (length this) at b) ∙ ap (drop (length this)) g.rest ∙ drop-drop (length this) at b₀ ∙ ap (λ (k : ℕ). drop k b₀) (sym en);
              goes =
                  g.goes ∙ ap (record_then (take at b)) (next_left _ ∙ row_fits recordOf _ (found i (row_of image r)) _ _ (omega (arith, g.long)))
                  ∙ rw (front, append_assoc, room);
            }

-- ---- going on

-- the records of these rows, one after the other
abbrev pub records_of : RowRecord → List Found → List ℕ
records_of recordOf [] = []
records_of recordOf (f ∷ fs) = recordOf f.slot f.row ++ records_of recordOf fs

-- a call that gives `l` of these rows, where `from` has the rows from each slot on: those from its slot to go on from are the others, none
-- if it says that all are given, and a call with more room gives them too
pub record Resumes (recordOf : RowRecord) (past i : ℕ) (rows : List Found) (l : RowsGiven) (from : ℕ → List Found) : Type 0 where
  pub together : records_of recordOf rows ≡ l.written ++ records_of recordOf (from l.next)
  pub done : l.all ≡ true → from l.next ≡ []
  pub more : (m : ℕ) → given_in recordOf past rows (length l.written + m) ≡ record_then l.written (given_in recordOf past (from l.next) m)
  pub onward : i ≤ l.next
  pub to : l.next ≤ past

module _ (recordOf : RowRecord) (image segments types : List ℕ) (start : ℕ) where
  abbrev from : ℕ → List Found
  from j = rows_from image segments types start (slots types - j) j

  module _ (past : ℕ) where
    abbrev Resumed : ℕ → ℕ → ℕ → Type 0
    Resumed n i room = Resumes recordOf past i (rows_from image segments types start n i) (given_in recordOf past (rows_from image segments types start n i) room) from

    row_resumed : (i : ℕ) (r : TypeRow) (fs : List Found) (room : ℕ) → from i ≡ found i r ∷ fs → i ≤ past
        → ((k : ℕ) → Resumes recordOf past (suc i) fs (given_in recordOf past fs k) from) → Resumes recordOf past i (found i r ∷ fs) (given_in recordOf past (found i r ∷ fs) room) from
    row_resumed i r fs room e h further =
        let t : List ℕ = recordOf i r in
        elim (dec_lt room (length t)) [
          | yes s ↦
              rw (row_full recordOf past (found i r) fs room s)
              (record { together = rw e; done = λ z. let y : ◌≡◌ {A = ℕ} 0 1 = cc in absurd (omega arith); more = λ m. rw e (ap (given_in recordOf past (found i r ∷ fs)) (omega arith)); onward = omega arith; to = h })
          | no s ↦
              let w = further (room - length t) in
              let l : RowsGiven = given_in recordOf past fs (room - length t) in
              rw (row_fits recordOf past (found i r) fs room (omega arith)) (
              record {
                together = rw append_assoc (ap (λ (x : List ℕ). t ++ x) w.together);
                done = w.done;
                more =
                    λ m.
                    let rest : length (t ++ l.written) + m - length t ≡ length l.written + m = simp length-append (omega arith) in
                    row_fits recordOf past (found i r) fs (length (t ++ l.written) + m) (simp length-append (omega arith))
                    ∙ rw (rest, w.more m, append_assoc);
                onward = omega (arith, w.onward);
                to = w.to;
              }
              )
        ]

    resumed : (n i room : ℕ) → slots types - i ≡ n → slots types ≤ past → i ≤ past → Resumed n i room
    unfolding rows_from given_in
    resumed zero i room e h k =
        let out : from past ≡ [] = rows_out image segments types start (slots types) past h in
        record { together = rw out; done = λ z. out; more = λ m. rw out; onward = k; to = omega arith }
    resumed (suc n) i room e h k = go (λ room. resumed n (suc i) room (omega arith) h (omega arith)) (run image segments (slot_row types start i)) refl
      where
        go : ((room : ℕ) → Resumed n (suc i) room) → (x : Option TypeRow) → run image segments (slot_row types start i) ≡ x → Resumed (suc n) i room
        go further None t =
            let w = further room in
            rw (rows_from, t) (record { together = w.together; done = w.done; more = w.more; onward = omega (arith, w.onward); to = w.to })
        go further (Some r) t =
            rw (rows_from, t) (row_resumed i r (rows_from image segments types start n (suc i)) room (rw (e, rows_from, t)) k further)

  module _ (i n : ℕ) where
    abbrev given : RowsGiven
    given = rows_given recordOf image segments types start i n

    both : Resumes recordOf (max (slots types) i) i (from i) given from
    both = resumed (max (slots types) i) (slots types - i) i n refl (omega arith) (omega arith)

    -- what one call gives, followed by what a call from where it ended gives, is what one call with room for both gives
    pub going_on : (m : ℕ)
        → rows_given recordOf image segments types start i (length given.written + m) ≡ record_then given.written (rows_given recordOf image segments types start given.next m)
    going_on m =
        let past : max (slots types) i ≡ max (slots types) given.next = omega (arith, both.onward, both.to) in
        both.more m ∙ ap (λ (k : ℕ). record_then given.written (given_in recordOf k (from given.next) m)) past

    -- what is written, followed by the records of all rows from where it ended, is the records of all rows; if all are given, no row is
    -- left
    pub all_given : (records_of recordOf (from i) ≡ given.written ++ records_of recordOf (from given.next)) × (given.all ≡ true → from given.next ≡ [])
    all_given = (both.together, both.done)
