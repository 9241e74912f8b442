-- Records that obey the rules are opened with their layout (`complete`), and only such records are opened (`sound`). So
-- refusal 2 is given exactly for bytes, not too many, that are not such records (`broken-refused`, `refused-broken`).
-- Assumes nothing.
use Prim.Native.Nat.{ℕ, zero, suc, ◌+◌, ◌-◌, ◌*◌, ◌/◌, ◌%◌, ◌^◌, ◌≤◌, ◌<◌}
use Rattle.std.proofs.Math.Nat.{pow-succ'}
use Rattle.std.proofs.Math.Decide.{dec_le, dec_lt}
use native.Mathlib.Omega.{arith}
use Rattle.std.specs.Prelude.{◌≡◌, Bool, false, ◌⊎◌, drop, leb, eqb}
use Rattle.std.proofs.Math.Path.{refl, sym, ap}
use Rattle.std.proofs.Common.{◌∙◌, subst, inl, inr, ⊎_elim, length-append, take-append-drop, drop_of_length-le, take_at, drop_at, drop-drop, get_or-drop}
use mathlib.Core.List.Memᴰ
use mathlib.Core.List.{List, [], ◌∷◌, ◌++◌, append_assoc, Memᴰ}
use Rattle.std.proofs.Math.Bool.{true, and-false, and-eq-true_iff}
use Rattle.std.proofs.Math.ListN.{length, take, length-drop}
use Rattle.std.proofs.Math.Seq.{length-take-le}
use borrow.Author.Tests.{le-leb, leb-true, eq-eqb, ne_eqb, eqb-true, eqb-false}
use Rattle.refusal.specs.Refusal.{answered, refused}
use Rattle.util.specs.Cstr.{place}
use Rattle.util.specs.declared.cstr.Place.{Place}
use Rattle.util.specs.LittleEndian.{little_endian}
use Rattle.bundle.specs.Bundle.{Record, little_bytes, encoded, bundle_bytes, body_fits, Bytes, Rising, kinds, Obeys, body_place, layout_in, layout_of}
use Rattle.bundle.specs.Open.{size_at, kind_at, is_at, taken_at, image, segments, types, fields, strings, bundle_most, open_bundle}
use Rattle.bundle.proofs.OpenLaws.{untaken, taken_of, take_none, take_some, take_past, too_long, no_image, left_over, opens}
use Rattle.bundle.specs.declared.open.Layout.{Layout}
use Rattle.bundle.specs.declared.open.Taken.{Taken}

pub little_length : (w n : ℕ) → length (little_bytes w n) ≡ w
unfolding little_bytes
little_length zero n = refl
little_length (suc w) n = ap suc (little_length w (n / 256))

-- a number that fits in `w` bytes is the number of its bytes
pub little_of : (w n : ℕ) → n < 256 ^ w → little_endian (little_bytes w n) ≡ n
unfolding little_endian little_bytes
little_of zero n h = omega arith
little_of (suc w) n h =
    let l : n < 256 * 256 ^ w = rw (pow-succ' 256 w) at h in
    rw (little_of w (n / 256) (omega arith)) (omega arith)

-- and bytes are those of their number
pub of_little : (w : ℕ) (s : List ℕ) → Bytes s → w ≤ length s → little_bytes w (little_endian (take w s)) ≡ take w s
unfolding little_endian little_bytes
of_little zero s b h = refl
of_little (suc w) [] b h = absurd (omega arith)
of_little (suc w) (x ∷ s) b h =
    let low : (x + 256 * little_endian (take w s)) % 256 ≡ x = omega (arith, b 0) in
    let high : (x + 256 * little_endian (take w s)) / 256 ≡ little_endian (take w s) = omega (arith, b 0) in
    rw (low, high) (ap (λ (t : List ℕ). x ∷ t) (of_little w s (λ i. b (suc i)) (omega arith)))

-- the bytes at an offset where a record is encoded
module _ (s : List ℕ) (at : ℕ) (r : Record) (rest : List ℕ) (e : drop at s ≡ encoded r ++ rest) where
  header : drop at s ≡ little_bytes 4 (length r.body) ++ (little_bytes 2 r.kind ++ (r.body ++ rest))
  unfolding encoded
  header = e ∙ simp append_assoc

  from_kind : drop (at + 4) s ≡ little_bytes 2 r.kind ++ (r.body ++ rest)
  from_kind =
      sym (drop-drop 4 at s)
      ∙ ap (drop 4) header
      ∙ drop_at (little_bytes 4 (length r.body)) _ 4 (little_length 4 (length r.body))

  pub from_body : drop (at + 6) s ≡ r.body ++ rest
  from_body =
      let six : at + 6 ≡ at + 4 + 2 = omega arith in
      ap (λ (k : ℕ). drop k s) six
      ∙ sym (drop-drop 2 (at + 4) s)
      ∙ ap (drop 2) from_kind
      ∙ drop_at (little_bytes 2 r.kind) _ 2 (little_length 2 r.kind)

  pub from_next : drop (at + 6 + length r.body) s ≡ rest
  from_next = sym (drop-drop (length r.body) (at + 6) s) ∙ ap (drop (length r.body)) from_body ∙ drop_at r.body rest _ refl

  read_size : length r.body < 2 ^ 32 → size_at s at ≡ length r.body
  read_size h = ap little_endian (ap (take 4) header ∙ take_at _ _ 4 (little_length 4 (length r.body))) ∙ little_of 4 (length r.body) h

  read_kind : r.kind < 2 ^ 16 → kind_at s at ≡ r.kind
  read_kind h = ap little_endian (ap (take 2) from_kind ∙ take_at _ _ 2 (little_length 2 r.kind)) ∙ little_of 2 r.kind h

  pub read_within : at + 6 + length r.body ≤ length s
  read_within =
      let l : length s - at ≡ 4 + (2 + (length r.body + length rest)) = sym (length-drop at s) ∙ ap length header ∙ simp (length-append, little_length) in
      omega arith

-- bytes as a record at their start, and what follows it
module _ (s : List ℕ) (bytes : Bytes s) (at n : ℕ) where
  peel : (k o : ℕ) → take k (drop o s) ++ drop (o + k) s ≡ drop o s
  peel k o = ap (λ (t : List ℕ). take k (drop o s) ++ t) (sym (drop-drop k o s)) ∙ take-append-drop k (drop o s)

  number : (w o : ℕ) → o + w ≤ length s → little_bytes w (little_endian (take w (drop o s))) ≡ take w (drop o s)
  number w o h = of_little w (drop o s) (λ i. rw get_or-drop (bytes (o + i))) (simp length-drop (omega arith))

  pub encodes : (r : Record) → r.kind ≡ kind_at s at → length r.body ≡ size_at s at → r.body ≡ take n (drop (at + 6) s) → at + 6 + n ≤ length s → encoded r ++ drop (at + 6 + n) s ≡ drop at s
  unfolding encoded
  encodes r k l b h =
      let six : at + 4 + 2 ≡ at + 6 = omega arith in
      rw (k, l, b, number 4 at (omega arith), number 2 (at + 4) (omega arith))
      (simp append_assoc (rw (peel n (at + 6), ← six, peel 2 (at + 4), peel 4 at)))

absent : {last : ℕ} {rs : List Record} → Rising last rs → (j at : ℕ) → j ≤ last → place 0 0 ≡ body_place j at rs
unfolding body_place
absent Rising.done j at h = refl
absent (Rising.next {r = r} lo hi fit more) j at h = rw (ne_eqb r.kind j (λ q. omega arith)) (absent more j _ (omega arith))

weaken : {a b : ℕ} {rs : List Record} → a ≤ b → Rising b rs → Rising a rs
weaken h Rising.done = Rising.done
weaken {a} h (Rising.next {r = r} lo hi fit more) = let low : a < r.kind = omega arith in Rising.next low hi fit more

-- the records from an offset on, of kinds above the last
record Stage (s : List ℕ) (at last : ℕ) (rs : List Record) : Type 0 where
  rising : Rising last rs
  bytes : drop at s ≡ bundle_bytes rs

-- what is taken for a kind is its record, and the other kinds stay where they were
record Step (t : Taken) (at kind : ℕ) (rs rest : List Record) : Type 0 where
  here : t.part ≡ body_place kind at rs
  later : (j : ℕ) → kind < j → body_place j at rs ≡ body_place j t.next rest

record Forward (s : List ℕ) (t : Taken) (at last : ℕ) (rs : List Record) : Type 0 where
  rest : List Record
  stage : Stage s t.next (suc last) rest
  step : Step t at (suc last) rs rest

forward_cons : (s : List ℕ) (at last : ℕ) (r : Record) (rs : List Record) → length s ≤ bundle_most → last < r.kind → r.kind ≤ 5 → body_fits r.kind (length r.body) ≡ true → Rising r.kind rs → drop at s ≡ encoded r ++ bundle_bytes rs → Forward s (taken_at (suc last) s at) at last (r ∷ rs)
unfolding is_at body_place bundle_bytes
forward_cons s at last r rs short lo hi fit more e =
    let within : at + 6 + length r.body ≤ length s = read_within s at r (bundle_bytes rs) e in
    let size : size_at s at ≡ length r.body = read_size s at r (bundle_bytes rs) e (omega arith) in
    let kind : kind_at s at ≡ r.kind = read_kind s at r (bundle_bytes rs) e (omega arith) in
    elim (dec_le r.kind (suc last)) [
      | yes h ↦
          let same : r.kind ≡ suc last = omega arith in
          let is : is_at (suc last) s at ≡ true = rw (size, kind, le-leb _ _ within, eq-eqb r.kind (suc last) same, ← same, fit) in
          subst (λ (t : Taken). Forward s t at last (r ∷ rs)) (ap (taken_of at) (sym size) ∙ take_some (suc last) s at is)
          (record {
            rest = rs;
            stage = record { rising = subst (λ (k : ℕ). Rising k rs) same more; bytes = from_next s at r (bundle_bytes rs) e };
            step = record {
              here = rw (eq-eqb r.kind (suc last) same);
              later = λ j l. rw (ne_eqb r.kind j (λ q. omega arith));
            };
          })
      | no h ↦
          let is : is_at (suc last) s at ≡ false = rw (kind, ne_eqb r.kind (suc last) (λ q. omega arith), and-false) in
          let low : suc last < r.kind = omega arith in
          let above : Rising (suc last) (r ∷ rs) = Rising.next low hi fit more in
          subst (λ (t : Taken). Forward s t at last (r ∷ rs)) (take_none (suc last) s at is)
          (record {
            rest = r ∷ rs;
            stage = record { rising = above; bytes = e };
            step = record { here = absent above (suc last) at (omega arith); later = λ j l. refl };
          })
    ]

forward : (s : List ℕ) (at last : ℕ) (rs : List Record) → length s ≤ bundle_most → Rising last rs → drop at s ≡ bundle_bytes rs → Forward s (taken_at (suc last) s at) at last rs
unfolding bundle_bytes body_place
forward s at last [] short Rising.done e =
    let l : length s - at ≡ 0 = sym (length-drop at s) ∙ ap length e in
    subst (λ (t : Taken). Forward s t at last []) (take_past (suc last) s at (omega arith))
    (record {
      rest = [];
      stage = record { rising = Rising.done; bytes = e };
      step = record { here = refl; later = λ j l. refl };
    })
forward s at last (r ∷ rs) short (Rising.next lo hi fit more) e = forward_cons s at last r rs short lo hi fit more e

record Backward (s : List ℕ) (t : Taken) (at last : ℕ) (rest : List Record) : Type 0 where
  records : List Record
  stage : Stage s at last records
  step : Step t at (suc last) records rest

module _ (s : List ℕ) (bytes : Bytes s) (at last : ℕ) (rest : List Record) (most : suc last ≤ 5) where
  back_some : is_at (suc last) s at ≡ true → Stage s (at + 6 + size_at s at) (suc last) rest → Backward s (taken_of at (size_at s at)) at last rest
  unfolding is_at body_place bundle_bytes
  back_some is st =
      let both = (and-eq-true_iff (leb (at + 6 + size_at s at) (length s)) _).0 is in
      let more = (and-eq-true_iff (eqb (kind_at s at) (suc last)) _).0 both.1 in
      let within : at + 6 + size_at s at ≤ length s = leb-true _ _ both.0 in
      let low : last < suc last = omega arith in
      let body : List ℕ = take (size_at s at) (drop (at + 6) s) in
      let size : length body ≡ size_at s at = length-take-le (size_at s at) (drop (at + 6) s) (simp length-drop (omega arith)) in
      let r : Record = record { kind = suc last; body = body } in
      let fit : body_fits (suc last) (length body) ≡ true = rw size more.1 in
      let whole = encodes s bytes at (size_at s at) r (sym (eqb-true _ _ more.0)) size refl within in
      record {
        records = r ∷ rest;
        stage = record {
          rising = Rising.next {r = r} low most fit st.rising;
          bytes = sym whole ∙ ap (λ (t : List ℕ). encoded r ++ t) st.bytes;
        };
        step = record {
          here = rw (eq-eqb (suc last) (suc last) refl, size);
          later = λ j l. rw (ne_eqb (suc last) j (λ q. omega arith), size);
        };
      }

  back_none : Stage s at (suc last) rest → Backward s (untaken at) at last rest
  back_none st =
      record {
        records = rest;
        stage = record { rising = weaken (omega arith) st.rising; bytes = st.bytes };
        step = record { here = absent st.rising (suc last) at (omega arith); later = λ j l. refl };
      }

  backward : Stage s (taken_at (suc last) s at).next (suc last) rest → Backward s (taken_at (suc last) s at) at last rest
  backward = go (is_at (suc last) s at) refl
    where
      Back : Taken → Type 0
      Back t = Stage s t.next (suc last) rest → Backward s t at last rest

      go : (b : Bool) → is_at (suc last) s at ≡ b → Back (taken_at (suc last) s at)
      go true is = subst Back (take_some (suc last) s at is) (back_some is)
      go false is = subst Back (take_none (suc last) s at is) back_none

abbrev pub taken_layout : List ℕ → Layout
taken_layout s = layout_in s (image s).part (segments s).part (types s).part (fields s).part (strings s).part

-- the layout that was taken is that of the records
module _ (s : List ℕ) (r0 r1 r2 r3 r4 r5 : List Record) (s1 : Step (image s) 0 1 r0 r1) (s2 : Step (segments s) (image s).next 2 r1 r2) (s3 : Step (types s) (segments s).next 3 r2 r3) (s4 : Step (fields s) (types s).next 4 r3 r4) (s5 : Step (strings s) (fields s).next 5 r4 r5) where
  from2 : (j : ℕ) → 2 < j → body_place j 0 r0 ≡ body_place j (segments s).next r2
  from2 j h = s1.later j (omega arith) ∙ s2.later j h

  from3 : (j : ℕ) → 3 < j → body_place j 0 r0 ≡ body_place j (types s).next r3
  from3 j h = from2 j (omega arith) ∙ s3.later j h

  laid : bundle_bytes r0 ≡ s → taken_layout s ≡ layout_of r0
  unfolding layout_of
  laid whole =
      let p2 = s2.here ∙ sym (s1.later 2 (omega arith)) in
      let p3 = s3.here ∙ sym (from2 3 (omega arith)) in
      let p4 = s4.here ∙ sym (from3 4 (omega arith)) in
      let p5 = s5.here ∙ sym (from3 5 (omega arith) ∙ s4.later 5 (omega arith)) in
      rw (whole, s1.here, p2, p3, p4, p5)

-- a kind has a place exactly if there is a record of it
placed : (k at : ℕ) (rs : List Record) → Memᴰ k (kinds rs) → 0 < (body_place k at rs).start
unfolding body_place
placed k at [] m = absurd (Memᴰ.not-nil m)
placed k at (r ∷ rs) m =
    go (λ n. placed k (at + 6 + length r.body) rs n) (eqb r.kind k) refl
  where
    go : (Memᴰ k (kinds rs) → 0 < (body_place k (at + 6 + length r.body) rs).start) → (b : Bool) → eqb r.kind k ≡ b → 0 < (body_place k at (r ∷ rs)).start
    go below true e = rw e (omega arith)
    go below false e = rw e (below (⊎_elim (λ q. absurd (eqb-false _ _ e (sym q))) (λ n. n) (Memᴰ.cases_cons m)))

recorded : (k at : ℕ) (rs : List Record) → 0 < (body_place k at rs).start → Memᴰ k (kinds rs)
unfolding body_place
recorded k at [] h = absurd (omega arith)
recorded k at (r ∷ rs) h =
    go (λ l. recorded k (at + 6 + length r.body) rs l) (eqb r.kind k) refl
  where
    go : (0 < (body_place k (at + 6 + length r.body) rs).start → Memᴰ k (kinds rs)) → (b : Bool) → eqb r.kind k ≡ b → Memᴰ k (kinds (r ∷ rs))
    go below true e = Memᴰ.head (sym (eqb-true _ _ e))
    go below false e = Memᴰ.tail (below (rw e at h))

-- records have bytes
some_bytes : (r : Record) (rs : List Record) → 0 < length (bundle_bytes (r ∷ rs))
unfolding bundle_bytes encoded
some_bytes r rs = simp (length-append, little_length) (omega arith)

no_records : (rs : List Record) → length (bundle_bytes rs) ≡ 0 → rs ≡ []
no_records [] e = refl
no_records (r ∷ rs) e = absurd (omega (arith, some_bytes r rs))

-- what was taken for the image is as the rules have it: nothing only if there are no bytes
module _ (s : List ℕ) (rs : List Record) (here : (image s).part ≡ body_place 1 0 rs) (same : bundle_bytes rs ≡ s) where
  image_taken : (rs ≡ []) ⊎ Memᴰ 1 (kinds rs) → (image s).part.start ≡ 0 → length s ≡ 0
  unfolding bundle_bytes
  image_taken (inl e) q = ap length (sym same ∙ ap bundle_bytes e)
  image_taken (inr m) q = let there : 0 < (image s).part.start = rw here (placed 1 0 rs m) in absurd (omega arith)

  image_recorded : ((image s).part.start ≡ 0 → length s ≡ 0) → (rs ≡ []) ⊎ Memᴰ 1 (kinds rs)
  image_recorded required =
      elim (dec_lt 0 (image s).part.start) [
        | yes there ↦ inr (recorded 1 0 rs (rw here at there))
        | no there ↦ inl (no_records rs (ap length same ∙ required (omega arith)))
      ]

none_left : (s : List ℕ) (at : ℕ) (rs : List Record) → Stage s at 5 rs → length s ≤ at
unfolding bundle_bytes
none_left s at rs st = go st.rising st.bytes
  where
    go : {rs : List Record} → Rising 5 rs → drop at s ≡ bundle_bytes rs → length s ≤ at
    go Rising.done e = omega (arith, length-drop at s, ap length e)
    go (Rising.next lo hi fit more) e = absurd (omega arith)

-- records of kinds above 1, and so without an image, are refused if there are any
pub imageless : (r : Record) (rs : List Record) → Rising 1 (r ∷ rs) → length (bundle_bytes (r ∷ rs)) ≤ bundle_most → open_bundle (bundle_bytes (r ∷ rs)) ≡ refused 2
imageless r rs rising short =
    let s : List ℕ = bundle_bytes (r ∷ rs) in
    let f = forward s 0 0 (r ∷ rs) short (weaken (omega arith) rising) refl in
    let missing : (image s).part ≡ place 0 0 = f.step.here ∙ sym (absent rising 1 0 (omega arith)) in
    sym (no_image s refl refl refl refl refl (ap (λ (p : Place). p.start) missing) (some_bytes r rs) short)

pub complete : (rs : List Record) → Obeys rs → length (bundle_bytes rs) ≤ bundle_most → open_bundle (bundle_bytes rs) ≡ answered (layout_of rs)
complete rs obeys short =
    let s : List ℕ = bundle_bytes rs in
    let f1 = forward s 0 0 rs short obeys.rising refl in
    let f2 = forward s (image s).next 1 f1.rest short f1.stage.rising f1.stage.bytes in
    let f3 = forward s (segments s).next 2 f2.rest short f2.stage.rising f2.stage.bytes in
    let f4 = forward s (types s).next 3 f3.rest short f3.stage.rising f3.stage.bytes in
    let f5 = forward s (fields s).next 4 f4.rest short f4.stage.rising f4.stage.bytes in
    sym (opens s refl refl refl refl refl refl refl refl (image_taken s rs f1.step.here refl obeys.image) (none_left s (strings s).next f5.rest f5.stage) short)
    ∙ ap answered (laid s rs f1.rest f2.rest f3.rest f4.rest f5.rest f1.step f2.step f3.step f4.step f5.step refl)

-- records whose bytes have a layout
pub record Behind (s : List ℕ) (l : Layout) : Type 0 where
  pub records : List Record
  pub obeys : Obeys records
  pub bytes : bundle_bytes records ≡ s
  pub layout : layout_of records ≡ l
  pub short : length s ≤ bundle_most

-- what a bundle needs to be opened
pub opened_short : (s : List ℕ) (l : Layout) → open_bundle s ≡ answered l → length s ≤ bundle_most
opened_short s l e =
    elim (dec_le (length s) bundle_most) [
      | yes h ↦ h
      | no h ↦ let f = too_long s (omega arith) in let z : ◌≡◌ {A = ℕ} 0 1 = cc in absurd (omega arith)
    ]

pub opened_image : (s : List ℕ) (l : Layout) → open_bundle s ≡ answered l → (image s).part.start ≡ 0 → length s ≡ 0
opened_image s l e missing =
    elim (dec_le (length s) 0) [
      | yes h ↦ omega arith
      | no h ↦
          let f = no_image s refl refl refl refl refl missing (omega arith) (opened_short s l e) in
          let z : ◌≡◌ {A = ℕ} 0 1 = cc in
          absurd (omega arith)
    ]

pub opened_all : (s : List ℕ) (l : Layout) → open_bundle s ≡ answered l → length s ≤ (strings s).next
opened_all s l e =
    elim (dec_le (length s) (strings s).next) [
      | yes h ↦ h
      | no h ↦
          let f = left_over s refl refl refl refl refl (omega arith) (opened_short s l e) in
          let z : ◌≡◌ {A = ℕ} 0 1 = cc in
          absurd (omega arith)
    ]

pub sound : (s : List ℕ) (l : Layout) → Bytes s → open_bundle s ≡ answered l → Behind s l
unfolding bundle_bytes
sound s l bytes e =
    let short : length s ≤ bundle_most = opened_short s l e in
    let there : (image s).part.start ≡ 0 → length s ≡ 0 = opened_image s l e in
    let all : length s ≤ (strings s).next = opened_all s l e in
    let b5 = backward s bytes (fields s).next 4 [] (omega arith) (record { rising = Rising.done; bytes = drop_of_length-le s all }) in
    let b4 = backward s bytes (types s).next 3 b5.records (omega arith) b5.stage in
    let b3 = backward s bytes (segments s).next 2 b4.records (omega arith) b4.stage in
    let b2 = backward s bytes (image s).next 1 b3.records (omega arith) b3.stage in
    let b1 = backward s bytes 0 0 b2.records (omega arith) b2.stage in
    let found : answered (taken_layout s) ≡ answered l = opens s refl refl refl refl refl refl refl refl there all short ∙ e in
    let same : bundle_bytes b1.records ≡ s = sym {b = bundle_bytes b1.records} b1.stage.bytes in
    let from = laid s b1.records b2.records b3.records b4.records b5.records [] b1.step b2.step b3.step b4.step b5.step same in
    let layout : layout_of b1.records ≡ l = cc in
    record {
      records = b1.records;
      obeys = record { rising = b1.stage.rising; image = image_recorded s b1.records b1.step.here same there };
      bytes = same;
      layout = layout;
      short = short;
    }

-- a bundle that is not too long is refused with 2 if it breaks the rules, and only then
module _ (s : List ℕ) where
  pub broken_refused : Bytes s → length s ≤ bundle_most → ((rs : List Record) → Obeys rs → bundle_bytes rs ≡ s → ⊥) → open_bundle s ≡ refused 2
  broken_refused bytes short broken =
      elim (dec_le (length s) (strings s).next) [
        | no all ↦ sym (left_over s refl refl refl refl refl (omega arith) short)
        | yes all ↦
            elim (dec_le (length s) 0) [
              | yes empty ↦ obeyed all (λ q. omega arith)
              | no filled ↦
                  elim (dec_lt 0 (image s).part.start) [
                    | yes there ↦ obeyed all (λ q. omega arith)
                    | no there ↦ sym (no_image s refl refl refl refl refl (omega arith) (omega arith) short)
                  ]
            ]
      ]
    where
      obeyed : length s ≤ (strings s).next → ((image s).part.start ≡ 0 → length s ≡ 0) → open_bundle s ≡ refused 2
      obeyed all there =
          let found = sound s _ bytes (sym (opens s refl refl refl refl refl refl refl refl there all short)) in
          absurd (broken found.records found.obeys found.bytes)

  pub refused_broken : open_bundle s ≡ refused 2 → (rs : List Record) → Obeys rs → bundle_bytes rs ≡ s → ⊥
  refused_broken e rs obeys same =
      elim (dec_le (length s) bundle_most) [
        | yes h ↦
            let c = complete rs obeys (rw same h) in
            let f : open_bundle s ≡ answered (layout_of rs) = rw same at c in
            let z : ◌≡◌ {A = ℕ} 0 1 = cc in
            omega arith
        | no h ↦
            let f = too_long s (omega arith) in
            let z : ◌≡◌ {A = ℕ} 5 2 = cc in
            omega arith
      ]
