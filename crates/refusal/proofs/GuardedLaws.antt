-- The test of a call's segments.
use Prim.Native.Nat.{ℕ, zero, suc, ◌+◌, ◌*◌, ◌/◌, ◌%◌, ◌^◌, ◌≤◌, ◌<◌}
use native.Mathlib.Omega.{arith}
use Rattle.std.proofs.Math.Numerals.{unary_clauses}
use Rattle.std.specs.Prelude.{◌≡◌, List, [], ◌∷◌, map, cond, Bool, false, ◌||◌, leb, drop, Option, Some, None, Result, Ok, Err, ⊤}
use Rattle.std.proofs.Math.Path.{refl, sym, ap}
use Rattle.std.proofs.Common.{◌∙◌}
use Rattle.std.proofs.Math.Bool.{true}
use Rattle.std.proofs.Math.Dec.{ltb}
use Rattle.std.proofs.Math.ListN.{length, get_or, length-drop}
use borrow.Author.Tests.{eq-eqb, ne_eqb, le-leb, lt-leb, lt-ltb}
use Rattle.std.proofs.lemmas.List.Sums.{sum_by-cons}
use Rattle.std.specs.Simd.{first_chunks}
use Rattle.std.specs.List.{count_by, position_from}
use Rattle.segment.specs.Segments.{Segment, segment_from, segments_of}
use Rattle.segment.proofs.SegmentsLaws.{segments_chunks, segments_step, segments_end}
use Rattle.refusal.specs.Refusal.{Guarded, answered, refused, mapped, refusal_number}
use Rattle.refusal.specs.declared.Refusal.{Refusal}
use Rattle.refusal.specs.Guarded.{wrapping, any_wrapping, fault, fault_of, first_wrapping, refused_by, guarded}

-- ---- what is wrong with a list, in plain numbers

module _ (l : List ℕ) where
  pub ragged : (length l % 4 ≡ 0 → ⊥) → Some 1 ≡ fault l
  unfolding fault
  ragged h = simp (ne_eqb (length l % 4) 0 h)

  module _ (h : length l % 4 ≡ 0) where
    pub wrapped : any_wrapping (segments_of l) ≡ true → Some 9 ≡ fault l
    unfolding fault
    wrapped w = simp (eq-eqb (length l % 4) 0 h, w)

    pub none_wrapping : any_wrapping (segments_of l) ≡ false → None ≡ fault l
    unfolding fault
    none_wrapping w = simp (eq-eqb (length l % 4) 0 h, w)

    -- and whole segments are refused with nothing else
    pub whole_nine : (n : ℕ) → Some n ≡ fault l → n ≡ 9
    whole_nine n e = go (any_wrapping (segments_of l)) refl
      where
        go : (b : Bool) → any_wrapping (segments_of l) ≡ b → n ≡ 9
        go true t = let f : Some n ≡ Some 9 = e ∙ sym (wrapped t) in cc
        go false t =
            let f : Some n ≡ None = e ∙ sym (none_wrapping t) in
            let z : ◌≡◌ {A = ℕ} 0 1 = cc in
            absurd (omega arith)

-- ---- the segments that wrap, counted

or_true : (b : Bool) → b || true ≡ true
or_true true = refl
or_true false = refl

-- whether four numbers are a segment that wraps
abbrev pub wrapping_piece : List ℕ → Bool
wrapping_piece c = wrapping (segment_from c)

one_more : (b : Bool) (n : ℕ) → b || ltb 0 n ≡ ltb 0 (cond b 1 0 + n)
one_more true n = sym (lt-ltb 0 (1 + n) (omega arith))
one_more false n = let e : n ≡ 0 + n = omega arith in ap (λ (m : ℕ). ltb 0 m) e

pub pieces_counted : (cs : List (List ℕ)) → any_wrapping (map segment_from cs) ≡ ltb 0 (count_by wrapping_piece cs)
unfolding any_wrapping
pieces_counted [] = refl
pieces_counted (c ∷ cs) =
    ap (λ (b : Bool). wrapping_piece c || b) (pieces_counted cs)
    ∙ one_more (wrapping_piece c) (count_by wrapping_piece cs)
    ∙ ap (λ (n : ℕ). ltb 0 n) (sym (sum_by-cons (λ x. cond (wrapping_piece x) 1 0) c cs))

-- what the code counts, of a list that it has cut into pieces of four
module _ (l : List ℕ) (cs : List (List ℕ)) (n : ℕ) (e : cs ≡ first_chunks 4 (length l / 4) l) (c : n ≡ count_by wrapping_piece cs) where
  any_counted : any_wrapping (segments_of l) ≡ ltb 0 n
  any_counted = ap any_wrapping (sym (ap (map segment_from) e ∙ segments_chunks l)) ∙ pieces_counted cs ∙ ap (λ (n : ℕ). ltb 0 n) (sym c)

  pub some_counted : length l % 4 ≡ 0 → (n ≡ 0 → ⊥) → Some 9 ≡ fault l
  some_counted h w = wrapped l h (any_counted ∙ lt-ltb 0 n (omega arith))

  pub none_counted : length l % 4 ≡ 0 → n ≡ 0 → None ≡ fault l
  none_counted h w = none_wrapping l h (any_counted ∙ ap (λ (n : ℕ). ltb 0 n) w)

-- ---- a turn of the walk over the list, from its `i`th number, `n` segments before it being found to wrap

module _ (l : List ℕ) (i : ℕ) where
  -- whether one of the segments counted, or one from `i` on, wraps
  abbrev pub wraps_from : ℕ → Bool
  wraps_from n = ltb 0 n || any_wrapping (segments_of (drop i l))

module _ (l : List ℕ) (i n : ℕ) (x : Bool) (inv : x ≡ wraps_from l i n) where
  module _ (h : i + 4 ≤ length l) where
    pub counted : 2 ^ 64 ≤ get_or l i 0 + get_or l (i + 1) 0 → x ≡ wraps_from l (i + 4) (n + 1)
    unfolding any_wrapping
    counted w =
        let one : ltb 0 (n + 1) ≡ true = lt-ltb 0 (n + 1) (omega arith) in
        inv ∙ rw (segments_step l i 0 h, le-leb (2 ^ 64) (get_or l i 0 + get_or l (i + 1) 0) w, one) (or_true (ltb 0 n))

    pub passed : get_or l i 0 + get_or l (i + 1) 0 < 2 ^ 64 → x ≡ wraps_from l (i + 4) n
    unfolding any_wrapping
    passed w = inv ∙ rw (segments_step l i 0 h, lt-leb (2 ^ 64) (get_or l i 0 + get_or l (i + 1) 0) w) refl

  pub all_passed : length l < i + 4 → n ≡ 0 → x ≡ false
  unfolding any_wrapping
  all_passed h z =
      let short : length (drop i l) < 4 = simp length-drop (omega arith) in
      inv ∙ rw (z, segments_end (drop i l) short) refl

  pub one_wraps : 0 < n → x ≡ true
  one_wraps p = inv ∙ rw (lt-ltb 0 n p) refl

-- ---- a segment at any place of a list

any_at : (l : List ℕ) (i : ℕ) → i % 4 ≡ 0 → i + 4 ≤ length l → 2 ^ 64 ≤ get_or l i 0 + get_or l (suc i) 0 → any_wrapping (segments_of l) ≡ true
unfolding any_wrapping segments_of
any_at (a ∷ (b ∷ (c ∷ (d ∷ rest)))) zero z h w = simp (le-leb (2 ^ 64) (a + b) w)
any_at (a ∷ (b ∷ (c ∷ (d ∷ rest)))) (suc (suc (suc (suc i)))) z h w = rw (any_at rest i (omega arith) (omega arith) w) (or_true (leb (2 ^ 64) (a + b)))
any_at (a ∷ (b ∷ (c ∷ (d ∷ rest)))) (suc zero) z h w = absurd (omega arith)
any_at (a ∷ (b ∷ (c ∷ (d ∷ rest)))) (suc (suc zero)) z h w = absurd (omega arith)
any_at (a ∷ (b ∷ (c ∷ (d ∷ rest)))) (suc (suc (suc zero))) z h w = absurd (omega arith)
any_at [] i z h w = absurd (omega arith)
any_at (a ∷ []) i z h w = absurd (omega arith)
any_at (a ∷ (b ∷ [])) i z h w = absurd (omega arith)
any_at (a ∷ (b ∷ (c ∷ []))) i z h w = absurd (omega arith)

none_at : (l : List ℕ) → ((i : ℕ) → i % 4 ≡ 0 → i + 4 ≤ length l → get_or l i 0 + get_or l (suc i) 0 < 2 ^ 64) → any_wrapping (segments_of l) ≡ false
unfolding any_wrapping segments_of
none_at (a ∷ (b ∷ (c ∷ (d ∷ rest)))) n =
    rw (lt-leb (2 ^ 64) (a + b) (n 0 refl (omega arith)))
    (none_at rest (λ i z h. n (suc (suc (suc (suc i)))) (omega arith) (omega arith)))
none_at [] n = refl
none_at (a ∷ []) n = refl
none_at (a ∷ (b ∷ [])) n = refl
none_at (a ∷ (b ∷ (c ∷ []))) n = refl

module _ (l : List ℕ) (whole : length l % 4 ≡ 0) where
  pub wrapped_at : (i : ℕ) → i % 4 ≡ 0 → i + 4 ≤ length l → 2 ^ 64 ≤ get_or l i 0 + get_or l (i + 1) 0 → Some 9 ≡ fault l
  wrapped_at i z h w = wrapped l whole (any_at l i z h (simp unary_clauses at w))

  pub none_wraps : ((i : ℕ) → i % 4 ≡ 0 → i + 4 ≤ length l → get_or l i 0 + get_or l (i + 1) 0 < 2 ^ 64) → None ≡ fault l
  none_wraps n = none_wrapping l whole (none_at l (λ i z h. simp unary_clauses at (n i z h)))

-- ---- which segment it is

-- it is told exactly if there is one
pub first_some : (k : ℕ) (ss : List Segment) → any_wrapping ss ≡ true → (n : ℕ) × (first_wrapping k ss ≡ Some n)
unfolding any_wrapping first_wrapping
first_some k [] e = let z : ◌≡◌ {A = ℕ} 0 1 = cc in absurd (omega arith)
first_some k (s ∷ ss) e = go (wrapping s) refl e (first_some (suc k) ss)
  where
    go : (b : Bool) → wrapping s ≡ b → b || any_wrapping ss ≡ true → (any_wrapping ss ≡ true → (n : ℕ) × (first_wrapping (suc k) ss ≡ Some n)) → (n : ℕ) × (first_wrapping k (s ∷ ss) ≡ Some n)
    go true t e ih = (k, rw t refl)
    go false t e ih = let r = ih e in (r.0, rw t r.1)

pub first_none : (k : ℕ) (ss : List Segment) → any_wrapping ss ≡ false → first_wrapping k ss ≡ None
unfolding any_wrapping first_wrapping
first_none k [] e = refl
first_none k (s ∷ ss) e = go (wrapping s) refl e (first_none (suc k) ss)
  where
    go : (b : Bool) → wrapping s ≡ b → b || any_wrapping ss ≡ false → (any_wrapping ss ≡ false → first_wrapping (suc k) ss ≡ None) → first_wrapping k (s ∷ ss) ≡ None
    go true t e ih = let z : ◌≡◌ {A = ℕ} 0 1 = cc in absurd (omega arith)
    go false t e ih = rw t (ih e)

-- and it is the first of the pieces of four numbers
pub first_piece : (k : ℕ) (cs : List (List ℕ)) → position_from wrapping_piece k cs ≡ first_wrapping k (map segment_from cs)
unfolding first_wrapping
first_piece k [] = refl
first_piece k (c ∷ cs) =
    let next : k + 1 ≡ suc k = omega arith in
    ap (λ (o : Option ℕ). cond (wrapping_piece c) (Some k) o) (ap (λ (n : ℕ). position_from wrapping_piece n cs) next ∙ first_piece (suc k) cs)

-- a turn of the walk over the list, from the segment with number `k` on
module _ (l : List ℕ) (k : ℕ) (x : Option ℕ) (inv : x ≡ first_wrapping k (segments_of (drop (4 * k) l))) where
  module _ (h : 4 * k + 4 ≤ length l) where
    pub first_here : 2 ^ 64 ≤ get_or l (4 * k) 0 + get_or l (4 * k + 1) 0 → Some k ≡ x
    unfolding first_wrapping
    first_here w = sym (inv ∙ rw (segments_step l (4 * k) 0 h, le-leb (2 ^ 64) (get_or l (4 * k) 0 + get_or l (4 * k + 1) 0) w) refl)

    pub first_passed : get_or l (4 * k) 0 + get_or l (4 * k + 1) 0 < 2 ^ 64 → x ≡ first_wrapping (k + 1) (segments_of (drop (4 * (k + 1)) l))
    unfolding first_wrapping
    first_passed w =
        let place : 4 * k + 4 ≡ 4 * (k + 1) = omega arith in
        let one : suc k ≡ k + 1 = omega arith in
        inv
        ∙ rw (segments_step l (4 * k) 0 h, lt-leb (2 ^ 64) (get_or l (4 * k) 0 + get_or l (4 * k + 1) 0) w) refl
        ∙ ap (λ (n : ℕ). first_wrapping (suc k) (segments_of (drop n l))) place
        ∙ ap (λ (n : ℕ). first_wrapping n (segments_of (drop (4 * (k + 1)) l))) one

  pub first_nowhere : length l < 4 * k + 4 → None ≡ x
  unfolding first_wrapping
  first_nowhere h =
      let short : length (drop (4 * k) l) < 4 = simp length-drop (omega arith) in
      sym (inv ∙ rw (segments_end (drop (4 * k) l) short) refl)

-- ---- a call's answer

module _ (segments : List ℕ) {A : Type 0} (g : Guarded A) where
  by_fault : (f : Option ℕ) → f ≡ fault segments → refused_by f g ≡ guarded segments g
  unfolding guarded
  by_fault f e = ap (λ (f : Option ℕ). refused_by f g) e

  pub refused_list : {n : ℕ} → Some n ≡ fault segments → refused n ≡ guarded segments g
  refused_list e = by_fault (Some _) e

  pub accepted_list : None ≡ fault segments → g ≡ guarded segments g
  accepted_list e = by_fault None e

  pub accepted_as : (x : Guarded A) → x ≡ g → None ≡ fault segments → x ≡ guarded segments g
  accepted_as x o e = o ∙ accepted_list e

  -- the same from what `find_fault` returned, at a `match`. A call that hands its `Err` on by `?` needs no answer for that under
  -- `#[tactic(auto, unfolding(refusal::specs::Guarded::guarded))]`.
  pub refused_as : {r : Result ⊤ Refusal} {e : Refusal} → fault_of r ≡ fault segments → r ≡ Err e → refused (refusal_number e) ≡ guarded segments g
  refused_as f t = refused_list (sym (ap fault_of t) ∙ f)

  pub accepted_by : {r : Result ⊤ Refusal} {u : ⊤} {x : Guarded A} → fault_of r ≡ fault segments → r ≡ Ok u → x ≡ g → x ≡ guarded segments g
  accepted_by f t o = accepted_as _ o (sym (ap fault_of t) ∙ f)

  -- what is made from an answer
  pub mapped_guarded : {B : Type 0} (f : A → B) → mapped f (guarded segments g) ≡ guarded segments (mapped f g)
  unfolding guarded
  mapped_guarded {B} f = go (fault segments)
    where
      go : (o : Option ℕ) → mapped f (refused_by o g) ≡ refused_by o (mapped f g)
      go None = refl
      go (Some n) = refl

-- what a call that answers says
pub answered_is : (segments : List ℕ) {A : Type 0} (x y : A) → answered y ≡ guarded segments (answered x) → y ≡ x
unfolding guarded
answered_is segments {A} x y e = go (fault segments) e
  where
    go : (f : Option ℕ) → answered y ≡ refused_by f (answered x) → y ≡ x
    go None e = cc
    go (Some n) e = let z : ◌≡◌ {A = ℕ} 0 1 = cc in absurd (omega arith)

pub never_refused : (segments : List ℕ) {A : Type 0} (x : A) (n : ℕ) → refused n ≡ guarded segments (answered x) → None ≡ fault segments → ⊥
never_refused segments x n e h =
    let f : refused n ≡ answered x = e ∙ sym (accepted_list segments (answered x) h) in
    let z : ◌≡◌ {A = ℕ} 0 1 = cc in
    omega arith
