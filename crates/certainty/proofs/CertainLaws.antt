-- What is certain for the bytes that arrived holds whatever bytes follow (`certain-run`), that is, for every image that starts with them
-- (`certain-first`): the program's answer is that image's, and if it has none the image has none. It stays certain (`certain-stays`). There
-- is no premise on texts.
use Rattle.std.specs.Prelude.{ℕ, zero, suc, ◌+◌, ◌≤◌, ◌<◌, ◌≡◌, refl, ◌&&◌, take, drop, ltb, Option, Some, None, option_map}
use Rattle.std.proofs.Common.{arith, sym, ◌∙◌, ap, length-append, length-drop, take-append-drop}
use mathlib.Core.List.{List, [], ◌∷◌, ◌++◌}
use Rattle.std.proofs.Math.Bool.{true, false, and-eq-true_iff}
use Rattle.std.proofs.lemmas.Bool.{false≢true}
use Rattle.std.proofs.Math.ListN.{length}
use Rattle.std.proofs.lemmas.List.{take-append-le, drop-append-le}
use Rattle.std.proofs.Math.Dec.{leb, leb-suc-suc}
use borrow.Author.Tests.{le-leb, leb-true, lt-ltb, ltb-true}
use Rattle.utf8.specs.Text.{until_nul, well_formed, text_length}
use Rattle.segment.specs.Segments.{segments_of, file_offset}
use Rattle.util.specs.declared.cstr.Place.{Place}
use Rattle.util.specs.Cstr.{place, text_at}
use Rattle.runtime.specs.Reads.{Reads, done, nothing, bytes, text, and_then, within, bytes_place, text_offset, run}
use Rattle.certainty.specs.Certain.{has_nul, if_there, certain}

-- ---- a NUL

-- there is one if the text before it is not everything
pub nul_is : (s : List ℕ) → has_nul s ≡ ltb (length (until_nul s)) (length s)
unfolding has_nul until_nul
nul_is [] = refl
nul_is (zero ∷ s) = sym (lt-ltb 0 (suc (length s)) (omega arith))
nul_is (suc b ∷ s) = nul_is s ∙ sym (leb-suc-suc (suc (length (until_nul s))) (length s))

-- what follows does not change the text before it
pub nul_text : (s t : List ℕ) → has_nul s ≡ true → until_nul (s ++ t) ≡ until_nul s
unfolding has_nul until_nul
nul_text [] t e = absurd (false≢true e)
nul_text (zero ∷ s) t e = refl
nul_text (suc b ∷ s) t e = ap (λ (u : List ℕ). suc b ∷ u) (nul_text s t e)

pub nul_stays : (s t : List ℕ) → has_nul s ≡ true → has_nul (s ++ t) ≡ true
unfolding has_nul
nul_stays [] t e = absurd (false≢true e)
nul_stays (zero ∷ s) t e = refl
nul_stays (suc b ∷ s) t e = nul_stays s t e

pub nul_inside : (s : List ℕ) (o : ℕ) → has_nul (drop o s) ≡ true → o < length s
nul_inside s o e =
    omega (arith, length-drop o s, ltb-true (length (until_nul (drop o s))) (length (drop o s)) (sym (nul_is (drop o s)) ∙ e))

-- ---- one read

module _ (arrived rest : List ℕ) where
  longer : length arrived ≤ length (arrived ++ rest)
  longer = omega (arith, length-append arrived rest)

  bytes_same : (o n : ℕ) → o + n ≤ length arrived → take n (drop o (arrived ++ rest)) ≡ take n (drop o arrived)
  bytes_same o n h =
      ap (take n) (drop-append-le o arrived rest (omega arith))
      ∙ take-append-le n (drop o arrived) rest (omega (arith, length-drop o arrived))

  module _ (o : ℕ) (e : has_nul (drop o arrived) ≡ true) where
    drop_same : drop o (arrived ++ rest) ≡ drop o arrived ++ rest
    drop_same = drop-append-le o arrived rest (omega (arith, nul_inside arrived o e))

    text_same : until_nul (drop o (arrived ++ rest)) ≡ until_nul (drop o arrived)
    text_same = ap until_nul drop_same ∙ nul_text (drop o arrived) rest e

    place_same : text_at (arrived ++ rest) o ≡ text_at arrived o
    unfolding text_at text_length
    place_same =
        let h : o ≤ length arrived = omega (arith, nul_inside arrived o e) in
        simp (le-leb o (length arrived) h, le-leb o (length (arrived ++ rest)) (omega (arith, longer)))
        (ap (λ (u : List ℕ). option_map (place o) (elim (well_formed u) as (λ _. Option ℕ) [ true ↦ Some (length u) | false ↦ None ])) text_same)

-- ---- a program

module _ (arrived rest segments : List ℕ) where
  -- the answer is the same, and still certain with the rest
  abbrev Kept : {A : Type 0} → Reads A → Type 0
  Kept p = certain arrived segments p ≡ true → (run (arrived ++ rest) segments p ≡ run arrived segments p) × (certain (arrived ++ rest) segments p ≡ true)

  module _ {A : Type 0} where
    kept_bytes : (n : ℕ) (k : List ℕ → Reads A) (x : Option ℕ) → ((h : List ℕ) → Kept (k h))
        → if_there x (λ o. leb (o + n) (length arrived) && certain arrived segments (k (take n (drop o arrived)))) ≡ true
        → (and_then (and_then x (within (length (arrived ++ rest)) n)) (λ o. run (arrived ++ rest) segments (k (take n (drop o (arrived ++ rest)))))
        ≡ and_then (and_then x (within (length arrived) n)) (λ o. run arrived segments (k (take n (drop o arrived)))))
        × (if_there x (λ o. leb (o + n) (length (arrived ++ rest)) && certain (arrived ++ rest) segments (k (take n (drop o (arrived ++ rest))))) ≡ true)
    unfolding within
    kept_bytes n k None kept e = (refl, refl)
    kept_bytes n k (Some o) kept e =
        let w = (and-eq-true_iff (leb (o + n) (length arrived)) (certain arrived segments (k (take n (drop o arrived))))).0 e in
        let h : o + n ≤ length arrived = leb-true (o + n) (length arrived) w.0 in
        let g : leb (o + n) (length (arrived ++ rest)) ≡ true = le-leb (o + n) (length (arrived ++ rest)) (omega (arith, longer arrived rest)) in
        let u = kept (take n (drop o arrived)) w.1 in
        (simp (w.0, g) (rw (bytes_same arrived rest o n h) u.0), simp g (rw (bytes_same arrived rest o n h) u.1))

    kept_text : (k : Place → List ℕ → Reads A) (x : Option ℕ) → ((p : Place) (t : List ℕ) → Kept (k p t))
        → if_there x (λ o. has_nul (drop o arrived) && if_there (text_at arrived o) (λ p. certain arrived segments (k p (until_nul (drop o arrived))))) ≡ true
        → (and_then x (λ o. and_then (text_at (arrived ++ rest) o) (λ p. run (arrived ++ rest) segments (k p (until_nul (drop o (arrived ++ rest))))))
        ≡ and_then x (λ o. and_then (text_at arrived o) (λ p. run arrived segments (k p (until_nul (drop o arrived))))))
        × (if_there x (λ o. has_nul (drop o (arrived ++ rest)) && if_there (text_at (arrived ++ rest) o) (λ p. certain (arrived ++ rest) segments (k p (until_nul (drop o (arrived ++ rest)))))) ≡ true)
    kept_text k None kept e = (refl, refl)
    kept_text k (Some o) kept e =
        let w = (and-eq-true_iff (has_nul (drop o arrived)) (if_there (text_at arrived o) (λ p. certain arrived segments (k p (until_nul (drop o arrived)))))).0 e in
        let u = found (text_at arrived o) w.1 in
        let g : has_nul (drop o (arrived ++ rest)) ≡ true = ap has_nul (drop_same arrived rest o w.0) ∙ nul_stays (drop o arrived) rest w.0 in
        rw (place_same arrived rest o w.0, text_same arrived rest o w.0, g) u
      where
        found : (y : Option Place) → if_there y (λ p. certain arrived segments (k p (until_nul (drop o arrived)))) ≡ true
            → (and_then y (λ p. run (arrived ++ rest) segments (k p (until_nul (drop o arrived)))) ≡ and_then y (λ p. run arrived segments (k p (until_nul (drop o arrived)))))
            × (if_there y (λ p. certain (arrived ++ rest) segments (k p (until_nul (drop o arrived)))) ≡ true)
        found None f = (refl, refl)
        found (Some p) f = kept p (until_nul (drop o arrived)) f

    kept : (p : Reads A) → Kept p
    unfolding certain run bytes_place
    kept (done a) e = (refl, refl)
    kept nothing e = (refl, refl)
    kept (bytes address n k) e = kept_bytes n k (file_offset (segments_of segments) address) (λ h. kept (k h)) e
    kept (text address k) e = kept_text k (text_offset segments address) (λ p t. kept (k p t)) e

module _ (segments : List ℕ) {A : Type 0} (p : Reads A) where
  -- whatever follows, the answer stays
  pub certain_run : (arrived : List ℕ) → certain arrived segments p ≡ true → (rest : List ℕ) → run (arrived ++ rest) segments p ≡ run arrived segments p
  certain_run arrived e rest = (kept arrived rest segments p e).0

  -- and certain
  pub certain_stays : (arrived : List ℕ) → certain arrived segments p ≡ true → (rest : List ℕ) → certain (arrived ++ rest) segments p ≡ true
  certain_stays arrived e rest = (kept arrived rest segments p e).1

  -- for an image cut to its first `c` bytes
  pub certain_cut : (image : List ℕ) (c : ℕ) → certain (take c image) segments p ≡ true → run image segments p ≡ run (take c image) segments p
  certain_cut image c e =
      ap (λ (s : List ℕ). run s segments p) (sym (take-append-drop c image)) ∙ certain_run (take c image) e (drop c image)

  -- for every image that starts with these bytes
  pub certain_first : (arrived : List ℕ) → certain arrived segments p ≡ true → (image : List ℕ) → take (length arrived) image ≡ arrived → run image segments p ≡ run arrived segments p
  certain_first arrived e image f =
      certain_cut image (length arrived) (ap (λ (s : List ℕ). certain s segments p) f ∙ e) ∙ ap (λ (s : List ℕ). run s segments p) f
