-- What the tests of a segment, one after the other, say about `decides`.
use Rattle.std.specs.Prelude.{ℕ, ◌+◌, ◌-◌, ◌^◌, ◌≤◌, ◌<◌, ◌≡◌, suc, ◌/◌, refl, List, [], ◌∷◌, map, length, drop, get_or, Option, Some, None, SomeIff}
use Rattle.std.proofs.Common.{add-zero, arith, sym, ap, ◌∙◌, drop-drop, get_or-drop}
use Rattle.std.proofs.Math.ListN.{length-drop}
use Rattle.std.proofs.Math.Decide.{dec_lt}
use Rattle.std.specs.Simd.{first_chunks}
use borrow.Author.Tests.{le-leb, lt-leb, lt-ltb, le-ltb}
use Rattle.segment.specs.Segments.{Segment, segment_from, segments_of, file_offset, decides, in_file}

module _ (s : Segment) (v : ℕ) where
  pub wraps : 2 ^ 64 ≤ s.vmaddr + s.vmsize → Some None ≡ decides s v
  unfolding decides
  wraps w = simp (le-leb (2 ^ 64) (s.vmaddr + s.vmsize) w)

  module _ (w : s.vmaddr + s.vmsize < 2 ^ 64) where
    pub below : v < s.vmaddr → None ≡ decides s v
    unfolding decides
    below h = simp (lt-leb (2 ^ 64) (s.vmaddr + s.vmsize) w, lt-leb s.vmaddr v h)

    module _ (from : s.vmaddr ≤ v) where
      pub above : s.vmaddr + s.vmsize ≤ v → None ≡ decides s v
      unfolding decides
      above h = simp (lt-leb (2 ^ 64) (s.vmaddr + s.vmsize) w, le-leb s.vmaddr v from, le-ltb v (s.vmaddr + s.vmsize) h)

      module _ (to : v < s.vmaddr + s.vmsize) where
        pub no_bytes : s.filesize ≡ 0 → None ≡ decides s v
        unfolding decides
        no_bytes h =
            simp
            (lt-leb (2 ^ 64) (s.vmaddr + s.vmsize) w, le-leb s.vmaddr v from, lt-ltb v (s.vmaddr + s.vmsize) to, h)

        -- the segment decides
        pub held : (o : Option ℕ) → 0 < s.filesize → o ≡ in_file s (v - s.vmaddr) → Some o ≡ decides s v
        unfolding decides
        held o h e =
            simp (
              lt-leb (2 ^ 64) (s.vmaddr + s.vmsize) w,
              le-leb s.vmaddr v from,
              lt-ltb v (s.vmaddr + s.vmsize) to,
              lt-ltb 0 s.filesize h,
            )
            (ap Some e)

    -- a segment without bytes in the file says nothing of any address
    pub empty : s.filesize ≡ 0 → None ≡ decides s v
    empty h =
        elim (dec_lt v s.vmaddr) [
          | yes b ↦ below b
          | no b ↦ elim (dec_lt v (s.vmaddr + s.vmsize)) [ yes t ↦ no_bytes (omega arith) t h | no t ↦ above (omega arith) (omega arith) ]
        ]

module _ (s : Segment) (d : ℕ) where
  pub past_file : s.filesize ≤ d → None ≡ in_file s d
  unfolding in_file
  past_file h = simp (le-leb s.filesize d h)

  module _ (h : d < s.filesize) where
    pub offset_wraps : 2 ^ 64 ≤ s.fileoff + d → None ≡ in_file s d
    unfolding in_file
    offset_wraps w = simp (lt-leb s.filesize d h, le-leb (2 ^ 64) (s.fileoff + d) w)

    pub in_file_lem : s.fileoff + d < 2 ^ 64 → Some (s.fileoff + d) ≡ in_file s d
    unfolding in_file
    in_file_lem w = simp (lt-leb s.filesize d h, lt-leb (2 ^ 64) (s.fileoff + d) w)

    -- what the addition that is tested gives
    pub added : (o : Option ℕ) → SomeIff o (s.fileoff + d < 2 ^ 64) (s.fileoff + d) → o ≡ in_file s d
    added None e = offset_wraps (omega arith)
    added (Some x) e = ap Some e.1 ∙ in_file_lem e.0

-- ---- the list of numbers, four to a segment

pub segments_chunks : (l : List ℕ) → map segment_from (first_chunks 4 (length l / 4) l) ≡ segments_of l
unfolding segments_of
segments_chunks [] = refl
segments_chunks (a ∷ []) = refl
segments_chunks (a ∷ (b ∷ [])) = refl
segments_chunks (a ∷ (b ∷ (c ∷ []))) = refl
segments_chunks (a ∷ (b ∷ (c ∷ (d ∷ rest)))) =
    let one : length (a ∷ (b ∷ (c ∷ (d ∷ rest)))) / 4 ≡ suc (length rest / 4) = omega arith in
    rw one (ap (λ (ss : List Segment). segment_from (a ∷ (b ∷ (c ∷ (d ∷ [])))) ∷ ss) (segments_chunks rest))

-- a turn of the walk over them: what they say is what the segment says, or what those after it say
module _ (s : Segment) (ss : List Segment) (v : ℕ) where
  pub told : (o : Option ℕ) → Some o ≡ decides s v → o ≡ file_offset (s ∷ ss) v
  unfolding file_offset
  told o e = rw (← e)

  pub left : None ≡ decides s v → file_offset (s ∷ ss) v ≡ file_offset ss v
  unfolding file_offset
  left e = rw (← e)

-- the four numbers from `i` on
abbrev pub segment_at : List ℕ → ℕ → Segment
segment_at l i = record { vmaddr = get_or l i 0; vmsize = get_or l (i + 1) 0; fileoff = get_or l (i + 2) 0; filesize = get_or l (i + 3) 0 }

segments_first : (l : List ℕ) → 4 ≤ length l → segments_of l ≡ segment_at l 0 ∷ segments_of (drop 4 l)
unfolding segments_of
segments_first [] h = absurd (omega arith)
segments_first (a ∷ []) h = absurd (omega arith)
segments_first (a ∷ (b ∷ [])) h = absurd (omega arith)
segments_first (a ∷ (b ∷ (c ∷ []))) h = absurd (omega arith)
segments_first (a ∷ (b ∷ (c ∷ (d ∷ rest)))) h = refl

-- fewer than four numbers are no segment
pub segments_end : (l : List ℕ) → length l < 4 → segments_of l ≡ []
unfolding segments_of
segments_end [] h = refl
segments_end (a ∷ []) h = refl
segments_end (a ∷ (b ∷ [])) h = refl
segments_end (a ∷ (b ∷ (c ∷ []))) h = refl
segments_end (a ∷ (b ∷ (c ∷ (d ∷ rest)))) h = absurd (omega arith)

-- a turn of the walk over the list, from its `i`th number
module _ (l : List ℕ) (i v : ℕ) where
  pub segments_step : i + 4 ≤ length l → segments_of (drop i l) ≡ segment_at l i ∷ segments_of (drop (i + 4) l)
  segments_step h =
      let long : 4 ≤ length (drop i l) = simp length-drop (omega arith) in
      segments_first (drop i l) long ∙ simp (drop-drop, get_or-drop, add-zero)

  -- `x`, what the numbers from `i` on say, is what the segment there says, or what those after it say
  module _ (x : Option ℕ) (inv : x ≡ file_offset (segments_of (drop i l)) v) where
    pub lookup_answer : (r : Option (Option ℕ)) (o : Option ℕ) → r ≡ decides (segment_at l i) v → r ≡ Some o → i + 4 ≤ length l → o ≡ x
    lookup_answer r o e t h =
        told (segment_at l i) (segments_of (drop (i + 4) l)) v o (sym t ∙ e) ∙ sym (inv ∙ ap (λ (ss : List Segment). file_offset ss v) (segments_step h))

    pub lookup_next : (r : Option (Option ℕ)) → r ≡ decides (segment_at l i) v → r ≡ None → i + 4 ≤ length l → x ≡ file_offset (segments_of (drop (i + 4) l)) v
    lookup_next r e t h =
        inv ∙ ap (λ (ss : List Segment). file_offset ss v) (segments_step h) ∙ left (segment_at l i) (segments_of (drop (i + 4) l)) v (sym t ∙ e)

    pub lookup_end : length l < i + 4 → None ≡ x
    unfolding file_offset
    lookup_end h =
        let short : length (drop i l) < 4 = simp length-drop (omega arith) in
        rw (inv, segments_end (drop i l) short)
