-- What the segments that a walk passes, and the one that decides, say about the addresses around one.
use Rattle.std.specs.Prelude.{ℕ, ◌+◌, ◌-◌, ◌^◌, ◌≤◌, ◌<◌, min, max, ◌≡◌, refl, true, false, ltb, List, [], ◌∷◌, map, length, drop, get_or, Option, Some, None}
use Rattle.std.proofs.Math.Decide.{dec_lt}
use Rattle.std.proofs.Common.{add-one, drop-cons, drop_of_length-le, arith, sym, ap, ◌∙◌, subst, ltb-true, eq-eqb, ne_eqb}
use Rattle.segment.specs.Segments.{Segment, segment_from, segments_of, file_offset, decides, in_file}
use Rattle.segment.proofs.SegmentsLaws.{below, above, empty, held, past_file, offset_wraps, in_file_lem, told, left}
use Rattle.segment.specs.Mapping.{LocatedNear, with_mapping, as_segment, TrueMapping, Has, Exact, Located, Covered, Part, Clipped}
use Rattle.segment.specs.declared.segment.Mapping.{Mapping}

-- it is tried before the segments; a mapping without addresses says nothing
asked : (segments : List ℕ) (m : Mapping) (v : ℕ) → m.vmaddr < 2 ^ 64 → file_offset (segments_of (with_mapping m segments)) v ≡ file_offset (as_segment m ∷ segments_of segments) v
unfolding file_offset segments_of
asked segments m v h =
    elim (dec_lt 0 m.size) [
      | yes p ↦ rw (ne_eqb m.size 0 (λ z. omega arith))
      | no p ↦
          let d : None ≡ decides (as_segment m) v =
          elim (dec_lt v m.vmaddr) [ yes b ↦ below (as_segment m) v (omega arith) b | no b ↦ above (as_segment m) v (omega arith) (omega arith) (omega arith) ] in
          rw (eq-eqb m.size 0 (omega arith), ← d)
    ]

module _ (segments : List ℕ) (m : Mapping) (v : ℕ) (h : m.vmaddr < 2 ^ 64) (r : Option (Option ℕ)) (e : r ≡ decides (as_segment m) v) where
  pub near_answer : (o : Option ℕ) → r ≡ Some o → o ≡ file_offset (segments_of (with_mapping m segments)) v
  unfolding file_offset
  near_answer o t = rw (asked segments m v h, ← e, t)

  pub near_next : (x : Option ℕ) → r ≡ None → x ≡ file_offset (segments_of segments) v → x ≡ file_offset (segments_of (with_mapping m segments)) v
  unfolding file_offset
  near_next x t f = f ∙ rw (asked segments m v h, ← e, t)

-- a mapping whose addresses have the offsets that it gives them is true
module _ (segments : List ℕ) (m : Mapping) (ends : m.vmaddr + m.size < 2 ^ 64) (fits : m.fileoff + m.size ≤ 2 ^ 64)
    (holds : (v : ℕ) → m.vmaddr ≤ v → v < m.vmaddr + m.size → file_offset (segments_of segments) v ≡ Some (m.fileoff + (v - m.vmaddr))) where
  mapped_at : (v : ℕ) → file_offset (segments_of (with_mapping m segments)) v ≡ file_offset (segments_of segments) v
  unfolding file_offset
  mapped_at v =
      asked segments m v (omega arith)
      ∙ elim (dec_lt v m.vmaddr) [
        | yes b ↦ rw (← below (as_segment m) v ends b)
        | no b ↦
            elim (dec_lt v (m.vmaddr + m.size)) [
              | yes t ↦
                  let h : Some (Some (m.fileoff + (v - m.vmaddr))) ≡ decides (as_segment m) v =
                  held (as_segment m) v ends (omega arith) t _ (omega arith) (in_file_lem (as_segment m) (v - m.vmaddr) (omega arith) (omega arith)) in
                  rw (← h) (sym (holds v (omega arith) t))
              | no t ↦ rw (← above (as_segment m) v ends (omega arith) (omega arith))
            ]
      ]

  pub mapped : TrueMapping segments m
  mapped = record { same = mapped_at }

pub empty_mapped : (segments : List ℕ) → TrueMapping segments (record { vmaddr = 0; size = 0; fileoff = 0 })
empty_mapped segments = record { same = λ v. refl }

-- what `clip` answers, of a segment that covers the address
module _ (low high : ℕ) (s : Segment) (v : ℕ) (w : Covered low high s v) where
  decided_none : None ≡ in_file s (v - s.vmaddr) → Some None ≡ decides s v
  decided_none = held s v w.ends w.from.1 w.to.1 None w.bytes

  pub clip_past : s.filesize ≤ v - s.vmaddr → Some None ≡ decides s v
  clip_past h = decided_none (past_file s _ h)

  pub clip_wraps : v - s.vmaddr < s.filesize → 2 ^ 64 ≤ s.fileoff + (v - s.vmaddr) → Some None ≡ decides s v
  clip_wraps h o = decided_none (offset_wraps s _ h o)

  under : v < high
  under = elim (dec_lt high (2 ^ 64 - 1)) [ yes g ↦ w.to.0 g | no g ↦ omega (arith, w.to.1, w.ends) ]

  pub clip_one : v - s.vmaddr < s.filesize → s.fileoff + (v - s.vmaddr) < 2 ^ 64 → Part low high s v (record { vmaddr = v; size = 1; fileoff = s.fileoff + (v - s.vmaddr) })
  clip_one h o = record {
    fits = omega arith;
    has = record { from = omega arith; to = omega arith };
    from = w.from;
    to = (omega (arith, under), omega (arith, w.to.1), omega (arith, w.from.1));
    offset = omega (arith, w.from.1);
  }

  -- a part of the segment, from `start` up to `end`
  module _ (i : v - s.vmaddr < s.filesize) (start end size : ℕ) (es : start ≡ max low s.vmaddr) (ee : end ≡ min high (s.vmaddr + size))
      (ez : size ≡ min s.vmsize s.filesize) where
    clip_has : (start ≤ v) × (v < end)
    clip_has = (omega (arith, w.from), omega (arith, w.to.1, under, w.from))

    pub clip_order : start ≤ end
    clip_order = omega (arith, clip_has)

    pub clip_part : s.fileoff + s.filesize < 2 ^ 64 → Part low high s v (record { vmaddr = start; size = end - start; fileoff = s.fileoff + (start - s.vmaddr) })
    clip_part h = go (omega (arith, es)) (omega (arith, ee)) (omega (arith, ez))
      where
        go : (low ≤ start) × (s.vmaddr ≤ start) → (end ≤ high) × (end ≤ s.vmaddr + size) → (size ≤ s.vmsize) × (size ≤ s.filesize)
            → Part low high s v (record { vmaddr = start; size = end - start; fileoff = s.fileoff + (start - s.vmaddr) })
        go f t z = record {
          fits = omega (arith, clip_has);
          has = record { from = clip_has.0; to = omega (arith, clip_has) };
          from = f;
          to = (omega (arith, clip_has), omega (arith, clip_has), omega (arith, clip_has));
          offset = omega (arith, clip_has);
        }

-- where a walk that looks for `a` stands: of `a`, and of all addresses from `low` up to `high`, the segments that are left say what all say
pub record Passed (all rest : List Segment) (a low high : ℕ) : Type 0 where
  pub sought : file_offset all a ≡ file_offset rest a
  pub around : (v : ℕ) → low ≤ v → v < high → file_offset all v ≡ file_offset rest v
  pub from : low ≤ a
  pub to : high < 2 ^ 64 - 1 → a < high

pub passed_none : (all : List Segment) (a : ℕ) → Passed all all a 0 (2 ^ 64 - 1)
passed_none all a = record { sought = refl; around = λ v x y. refl; from = omega arith; to = λ h. absurd (omega arith) }

-- the segments of the pieces of four numbers from the `i`th on
abbrev pub from_piece : List (List ℕ) → ℕ → List Segment
from_piece cs i = map segment_from (drop i cs)

pub at_piece : (all : List Segment) (cs : List (List ℕ)) (i : ℕ) {s : Segment} {a low high : ℕ} → Passed all (from_piece cs i) a low high → i < length cs → s ≡ segment_from (get_or cs i []) → Passed all (s ∷ from_piece cs (i + 1)) a low high
at_piece all cs i {s} {a} {low} {high} p h e =
    let more : from_piece cs i ≡ s ∷ from_piece cs (i + 1) = rw (e, add-one, drop-cons cs i [] h) in
    subst (λ (ss : List Segment). Passed all ss a low high) more p

-- at the end none is left
pub no_piece : (all : List Segment) (cs : List (List ℕ)) (i : ℕ) {a low high : ℕ} → Passed all (from_piece cs i) a low high → length cs ≤ i → None ≡ file_offset all a
unfolding file_offset
no_piece all cs i {a} p h =
    let none : from_piece cs i ≡ [] = ap (map segment_from) (drop_of_length-le cs h) in
    sym (p.sought ∙ ap (λ (ss : List Segment). file_offset ss a) none)

-- a turn of that walk
module _ (all : List Segment) (s : Segment) (ss : List Segment) (a low high : ℕ) (p : Passed all (s ∷ ss) a low high) (ends : s.vmaddr + s.vmsize < 2 ^ 64) where
  -- the segment leaves `a`, and all addresses from `low'` up to `high'`, to the next
  module _ (low' high' : ℕ) where
    passed : None ≡ decides s a → ((v : ℕ) → low' ≤ v → v < high' → None ≡ decides s v)
        → (low ≤ low') × (low' ≤ a) → (high' ≤ high) × (high' < 2 ^ 64 - 1 → a < high') → Passed all ss a low' high'
    passed e es f t = record {
      sought = p.sought ∙ left s ss a e;
      around = λ v x y. p.around v (omega (arith, f)) (omega (arith, t.0)) ∙ left s ss v (es v x y);
      from = f.1;
      to = t.1;
    }

    pub passed_above : a < s.vmaddr → low' ≡ low → high' ≡ min high s.vmaddr → Passed all ss a low' high'
    passed_above b el eh =
        passed (below _ a ends b) (λ v x y. below _ v ends (omega arith)) (omega arith, omega (arith, p.from)) (omega arith, λ g. elim (dec_lt high (2 ^ 64 - 1)) [ yes k ↦ let z = p.to k in omega arith | no k ↦ omega arith ])

    pub passed_below : s.vmaddr + s.vmsize ≤ a → low' ≡ max low (s.vmaddr + s.vmsize) → high' ≡ high → Passed all ss a low' high'
    passed_below b el eh =
        passed (above _ a ends (omega arith) b) (λ v x y. above _ v ends (omega arith) (omega arith)) (omega arith, omega (arith, p.from)) (omega arith, λ g. omega (arith, p.to (omega arith)))

    pub passed_empty : s.filesize ≡ 0 → low' ≡ low → high' ≡ high → Passed all ss a low' high'
    passed_empty z el eh =
        passed (empty _ a ends z) (λ v x y. empty _ v ends z) (omega arith, omega (arith, p.from)) (omega arith, λ g. omega (arith, p.to (omega arith)))

module _ (l : List ℕ) (s : Segment) (ss : List Segment) (a low high : ℕ) (p : Passed (segments_of l) (s ∷ ss) a low high) (ends : s.vmaddr + s.vmsize < 2 ^ 64) where
  module _ (m : Mapping) (w : Part low high s a m) where
    around_exact : Exact l m
    around_exact = record { offset = at }
      where
        at : (v : ℕ) → Has m v → file_offset (segments_of l) v ≡ Some (m.fileoff + (v - m.vmaddr))
        at v u =
            let d : Some (Some (m.fileoff + (v - m.vmaddr))) ≡ decides s v =
            held s v ends (omega (arith, w.from, u.from)) (omega (arith, w.to, u.to)) _ (omega (arith, w.from, w.to, u.from, u.to))
            (ap Some (omega (arith, w.from, w.offset, u.from)) ∙ in_file_lem s (v - s.vmaddr) (omega (arith, w.from, w.to, u.from, u.to)) (omega (arith, w.from, w.offset, w.fits, u.from, u.to))) in
            p.around v (omega (arith, w.from, u.from)) (omega (arith, w.to, u.to)) ∙ sym (told s ss v _ d)

    around_mapped : TrueMapping l m
    around_mapped = mapped l m (omega (arith, w.to)) w.fits (λ v f t. around_exact.offset v (record { from = f; to = t }))

  pub located : (r : Option Mapping) → Clipped low high s a r → Located l a r
  located (Some m) w = (around_mapped m w, w.has, around_exact m w)
  located None w = told s ss a _ w ∙ sym p.sought

-- ---- what `locate` promises fixes the address's offset, and the answer if it has none

pub located_offset : (segments : List ℕ) (v : ℕ) (m : Mapping) → Located segments v (Some m) → file_offset (segments_of segments) v ≡ Some (m.fileoff + (v - m.vmaddr))
located_offset segments v m w = w.2.offset v w.1

pub located_nowhere : (segments : List ℕ) (v : ℕ) (r : Option Mapping) → None ≡ file_offset (segments_of segments) v → Located segments v r → r ≡ None
located_nowhere segments v None e w = refl
located_nowhere segments v (Some m) e w =
    let f : None ≡ Some (m.fileoff + (v - m.vmaddr)) = e ∙ located_offset segments v m w in
    let z : ◌≡◌ {A = ℕ} 0 1 = cc in
    absurd (omega arith)

-- ---- the mapping that a walk goes on with

module _ (m : Mapping) (v : ℕ) where
  pub has_none : ◌≡◌ false true → Has m v
  has_none e = let z : ◌≡◌ {A = ℕ} 0 1 = cc in absurd (omega arith)

  pub has_within : m.vmaddr ≤ v → ltb (v - m.vmaddr) m.size ≡ true → Has m v
  has_within h e = record { from = h; to = omega (arith, ltb-true (v - m.vmaddr) m.size e) }

pub near_found : (segments : List ℕ) (m : Mapping) (v : ℕ) (r : Option Mapping) → Located segments v r → LocatedNear segments m v r
near_found segments m v (Some r) l = (λ w. l.0, l.1)
near_found segments m v None l = l

pub near_mapped : (segments : List ℕ) (m : Mapping) (v : ℕ) (r : Option Mapping) (n : Mapping) → r ≡ Some n → LocatedNear segments m v r → TrueMapping segments m → TrueMapping segments n
near_mapped segments m v r n e l = (subst (LocatedNear segments m v) e l).0

pub near_nowhere : (segments : List ℕ) (m : Mapping) (v : ℕ) (r : Option Mapping) → r ≡ None → LocatedNear segments m v r → None ≡ file_offset (segments_of segments) v
near_nowhere segments m v r e l = subst (LocatedNear segments m v) e l
