-- What a path and the cut's tests on it are, as equations with plain lists and numbers. The cut theorem has them in its premise and in its
-- conclusion, so it could hold with wrong ones too: these laws, and not the theorem, fix them.
use Rattle.std.specs.Prelude.{ℕ, zero, suc, ◌+◌, ◌-◌, ◌≤◌, ◌<◌, min, max, ◌⊎◌, List, [], ◌∷◌, true, false, take, drop, Option, Some, None, option_map}
use Rattle.std.proofs.Math.Decide.{dec_le, dec_lt}
use Rattle.std.proofs.Common.{arith, ◌∙◌, length-drop, le-leb, leb-true, eq-eqb, ne_eqb}
use Rattle.std.proofs.Math.Path.{◌≡◌, refl, sym, ap}
use Rattle.std.proofs.lemmas.Bool.{false≢true, lt-leb}
use Rattle.std.proofs.Math.ListN.{length}
use Rattle.utf8.specs.Text.{until_nul, text_length}
use Rattle.utf8.specs.Utf8Laws.{text_length_lem}
use Rattle.segment.specs.Segments.{segments_of, file_offset}
use Rattle.util.specs.declared.cstr.Place.{Place}
use Rattle.util.specs.Cstr.{place, text_at}
use Rattle.runtime.specs.Reads.{Reads, done, nothing, bytes, text, and_then, bytes_place, within, text_offset, run, Range, extent, text_range, with_nul, path, Clear, ends_by}

-- ---- a text's extent

-- the text and its NUL, not past the end of the bytes; and at least one byte
pub extent_is : (s : List ℕ) → extent s ≡ max 1 (min (length s) (length (until_nul s) + 1))
unfolding extent until_nul
extent_is [] = refl
extent_is (zero ∷ s) = omega arith
extent_is (suc b ∷ []) = refl
extent_is (suc b ∷ (x ∷ s)) = omega (arith, extent_is (x ∷ s))

pub text_range_lem : (image : List ℕ) (o : ℕ) → text_range image o ≡ record { from = o; to = o + max 1 (min (length image - o) (length (until_nul (drop o image)) + 1)); is_text = true }
text_range_lem image o = rw (extent_is (drop o image), length-drop)

-- ---- the cut's tests

module _ (c : ℕ) (r : Range) where
  pub bytes_clear : r.is_text ≡ false → Clear c r
  bytes_clear e t = absurd (false≢true (sym e ∙ t))

  pub text_clear : (c < r.from) ⊎ (r.to ≤ c) → Clear c r
  text_clear h t = h

  pub clear_text : r.is_text ≡ true → Clear c r → (c < r.from) ⊎ (r.to ≤ c)
  clear_text t h = h t

  pub ends_by_lem : r.to ≤ c → ends_by c r ≡ true
  ends_by_lem h = le-leb r.to c h

  pub by_ends : ends_by c r ≡ true → r.to ≤ c
  by_ends e = leb-true r.to c e

-- ---- the path, read by read

pub path_nothing : (A : Type 0) (image segments : List ℕ) → path {A = A} image segments nothing ≡ []
unfolding path
path_nothing A image segments = refl

module _ (image segments : List ℕ) {A : Type 0} where
  pub path_done : (x : A) → path image segments (done x) ≡ []
  unfolding path
  path_done x = refl

  module _ (a n : ℕ) (k : List ℕ → Reads A) where
    -- bytes that can be read, and what is read after them
    pub path_bytes : (o : ℕ) → file_offset (segments_of segments) a ≡ Some o → o + n ≤ length image
        → path image segments (bytes a n k) ≡ record { from = o; to = o + n; is_text = false } ∷ path image segments (k (take n (drop o image)))
    unfolding path bytes_place within
    path_bytes o e h = rw (e, path) (simp (le-leb (o + n) (length image) h))

    pub path_bytes_past : (o : ℕ) → file_offset (segments_of segments) a ≡ Some o → length image < o + n → path image segments (bytes a n k) ≡ []
    unfolding path bytes_place within
    path_bytes_past o e h = rw (e, path) (simp (lt-leb (o + n) (length image) h))

    pub path_bytes_nowhere : file_offset (segments_of segments) a ≡ None → path image segments (bytes a n k) ≡ []
    unfolding path bytes_place
    path_bytes_nowhere e = rw (e, path)

  module _ (a : ℕ) (k : Place → List ℕ → Reads A) where
    pub path_text_zero : a ≡ 0 → path image segments (text a k) ≡ []
    unfolding path text_offset
    path_text_zero z = simp (eq-eqb a 0 z)

    module _ (z : a ≡ 0 → ⊥) where
      pub path_text_nowhere : file_offset (segments_of segments) a ≡ None → path image segments (text a k) ≡ []
      unfolding path text_offset
      path_text_nowhere e = simp (ne_eqb a 0 z) (rw (e, path))

      -- a text that is looked up: the text and its NUL, or up to the image's end, or one byte past it; and what is read after it
      pub path_text : (o : ℕ) (p : Place) → file_offset (segments_of segments) a ≡ Some o → text_at image o ≡ Some p
          → path image segments (text a k)
          ≡ record { from = o; to = o + max 1 (min (length image - o) (length (until_nul (drop o image)) + 1)); is_text = true } ∷ path image segments (k p (until_nul (drop o image)))
      unfolding path text_offset
      path_text o p e t = simp (ne_eqb a 0 z) (rw (e, t) (ap (λ (r : Range). r ∷ path image segments (k p (until_nul (drop o image)))) (text_range_lem image o)))

      -- an ill_formed one, or one past the image's end, has its range too
      pub path_no_text : (o : ℕ) → file_offset (segments_of segments) a ≡ Some o → text_at image o ≡ None
          → path image segments (text a k)
          ≡ record { from = o; to = o + max 1 (min (length image - o) (length (until_nul (drop o image)) + 1)); is_text = true } ∷ []
      unfolding path text_offset
      path_no_text o e t = simp (ne_eqb a 0 z) (rw (e, t) (ap (λ (r : Range). r ∷ []) (text_range_lem image o)))

-- ---- the reads of a program that answers

-- its bytes can be read, and it goes on with them
pub record BytesRead (image segments : List ℕ) {A : Type 0} (a n : ℕ) (k : List ℕ → Reads A) (x : A) : Type 0 where
  pub offset : ℕ
  pub at : file_offset (segments_of segments) a ≡ Some offset
  pub inside : offset + n ≤ length image
  pub goes : run image segments (k (take n (drop offset image))) ≡ Some x

-- its text is found, and it goes on with that
pub record TextRead (image segments : List ℕ) {A : Type 0} (a : ℕ) (k : Place → List ℕ → Reads A) (x : A) : Type 0 where
  pub place : Place
  pub address : a ≡ 0 → ⊥
  pub at : file_offset (segments_of segments) a ≡ Some place.start
  pub found : text_at image place.start ≡ Some place
  pub goes : run image segments (k place (until_nul (drop place.start image))) ≡ Some x

-- the place of a text that was found is the offset that it was looked up at, and its size that of the bytes before the NUL
pub text_at_is : (image : List ℕ) (o : ℕ) (p : Place) → text_at image o ≡ Some p → p ≡ place o (length (until_nul (drop o image)))
unfolding text_at
text_at_is image o p e = go (dec_le o (length image))
  where
    at : (y : Option ℕ) → text_length (drop o image) ≡ y → option_map (place o) y ≡ Some p → p ≡ place o (length (until_nul (drop o image)))
    at None t f = let z : ◌≡◌ {A = ℕ} 0 1 = cc in absurd (omega arith)
    at (Some n) t f = let q : p ≡ place o n = cc in q ∙ ap (place o) (text_length_lem (drop o image) n t).0

    go : Dec (o ≤ length image) → p ≡ place o (length (until_nul (drop o image)))
    go (yes h) = at (text_length (drop o image)) refl (simp (le-leb o (length image) h) at e)
    go (no h) =
        let f : ◌≡◌ {A = Option Place} None (Some p) = simp (lt-leb o (length image) (omega arith)) at e in
        let z : ◌≡◌ {A = ℕ} 0 1 = cc in
        absurd (omega arith)

module _ (image segments : List ℕ) {A : Type 0} (a : ℕ) (x : A) where
  pub bytes_read_lem : (n : ℕ) (k : List ℕ → Reads A) → run image segments (bytes a n k) ≡ Some x → BytesRead image segments a n k x
  unfolding run bytes_place within
  bytes_read_lem n k e = go (file_offset (segments_of segments) a) refl e
    where
      at : (o : ℕ) → file_offset (segments_of segments) a ≡ Some o → Dec (o + n ≤ length image)
          → and_then (within (length image) n o) (λ q. run image segments (k (take n (drop q image)))) ≡ Some x → BytesRead image segments a n k x
      at o t (yes h) f = record { offset = o; at = t; inside = h; goes = simp (le-leb (o + n) (length image) h) at f }
      at o t (no h) f =
          let g : ◌≡◌ {A = Option A} None (Some x) = simp (lt-leb (o + n) (length image) (omega arith)) at f in
          let z : ◌≡◌ {A = ℕ} 0 1 = cc in
          absurd (omega arith)

      go : (y : Option ℕ) → file_offset (segments_of segments) a ≡ y
          → and_then (and_then y (within (length image) n)) (λ q. run image segments (k (take n (drop q image)))) ≡ Some x → BytesRead image segments a n k x
      go None t f = let z : ◌≡◌ {A = ℕ} 0 1 = cc in absurd (omega arith)
      go (Some o) t f = at o t (dec_le (o + n) (length image)) f

  module _ (k : Place → List ℕ → Reads A) where
    pub text_read : run image segments (text a k) ≡ Some x → TextRead image segments a k x
    unfolding run text_offset
    text_read e = by (dec_lt 0 a)
      where
        at : (a ≡ 0 → ⊥) → (o : ℕ) → file_offset (segments_of segments) a ≡ Some o → (y : Option Place) → text_at image o ≡ y
            → and_then y (λ p. run image segments (k p (until_nul (drop o image)))) ≡ Some x → TextRead image segments a k x
        at z o t None u f = let z : ◌≡◌ {A = ℕ} 0 1 = cc in absurd (omega arith)
        at z o t (Some p) u f =
            let q : o ≡ p.start = sym (ap (λ (r : Place). r.start) (text_at_is image o p u)) in
            record {
              place = p;
              address = z;
              at = t ∙ ap Some q;
              found = rw q at u;
              goes = rw q at f;
            }

        go : (a ≡ 0 → ⊥) → (y : Option ℕ) → file_offset (segments_of segments) a ≡ y
            → and_then y (λ o. and_then (text_at image o) (λ p. run image segments (k p (until_nul (drop o image))))) ≡ Some x → TextRead image segments a k x
        go z None t f = let z : ◌≡◌ {A = ℕ} 0 1 = cc in absurd (omega arith)
        go z (Some o) t f = at z o t (text_at image o) refl f

        by : Dec (0 < a) → TextRead image segments a k x
        by (yes h) = let z : a ≡ 0 → ⊥ = λ q. omega arith in go z (file_offset (segments_of segments) a) refl (simp (ne_eqb a 0 z) at e)
        by (no h) =
            let f : ◌≡◌ {A = Option A} None (Some x) = simp (eq-eqb a 0 (omega arith)) at e in
            let z : ◌≡◌ {A = ℕ} 0 1 = cc in
            absurd (omega arith)

    -- and its path is the text with its NUL, and what is read after it
    pub path_found : (w : TextRead image segments a k x)
        → path image segments (text a k) ≡ with_nul image w.place ∷ path image segments (k w.place (until_nul (drop w.place.start image)))
    path_found w =
        let size : w.place.size ≡ length (until_nul (drop w.place.start image)) = ap (λ (p : Place). p.size) (text_at_is image _ _ w.found) in
        path_text image segments a k w.address _ _ w.at w.found ∙ rw size
