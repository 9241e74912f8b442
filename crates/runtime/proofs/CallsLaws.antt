-- What the calls' answers say about the language of reads: from a call's contract a caller gets what `run` is in one step
-- (`run-bytes`, `run-no-bytes`, `run-text`, `run-no-text`). And the cases of the definitions that the calls' tests leave.
use Rattle.std.specs.Prelude.{ℕ, ◌+◌, ◌-◌, ◌≤◌, ◌<◌, drop, Option, Some, None, option_map}
use Rattle.std.proofs.Math.Decide.{dec_le}
use native.Mathlib.Omega.{arith}
use Rattle.std.proofs.Math.Path.{◌≡◌, refl, sym, ap}
use Rattle.std.proofs.Common.{◌∙◌, length-take}
use mathlib.Core.List.{List, []}
use Rattle.std.proofs.Math.ListN.{length, take, length-drop}
use borrow.Author.Tests.{le-leb, lt-leb, lt-ltb, le-ltb, eq-eqb, ne_eqb}
use Rattle.utf8.specs.Text.{until_nul, text_length}
use Rattle.utf8.specs.Utf8Laws.{text_bytes, text_length_le}
use Rattle.segment.specs.Segments.{segments_of, file_offset}
use Rattle.segment.specs.Mapping.{with_mapping, TrueMapping}
use Rattle.segment.specs.declared.segment.Mapping.{Mapping}
use Rattle.util.specs.declared.cstr.Place.{Place}
use Rattle.util.specs.Cstr.{place, text_at, part_of}
use Rattle.util.specs.CstrLaws.{part_in}
use Rattle.runtime.specs.Reads.{Reads, done, nothing, bytes, text, and_then, within, bytes_place, text_offset, text_place, run}
use Rattle.runtime.specs.Bytes.{bytes_read, bytes_from}
use Rattle.runtime.specs.FieldName.{in_image, in_strings, section_text, field_name}

-- a true mapping changes no answer
module _ (image segments : List ℕ) (m : Mapping) (w : TrueMapping segments m) where
  place_mapped : (a n : ℕ) → bytes_place image (with_mapping m segments) a n ≡ bytes_place image segments a n
  unfolding bytes_place
  place_mapped a n = simp w.same

  offset_mapped : (a : ℕ) → text_offset (with_mapping m segments) a ≡ text_offset segments a
  unfolding text_offset
  offset_mapped a = rw (w.same a)

  pub text_mapped : (a : ℕ) → text_place image (with_mapping m segments) a ≡ text_place image segments a
  unfolding text_place
  text_mapped a = rw (offset_mapped a)

  then_same : {A B : Type 0} (x : Option A) (f g : A → Option B) → ((a : A) → f a ≡ g a) → and_then x f ≡ and_then x g
  then_same None f g e = refl
  then_same (Some a) f g e = e a

  pub run_mapped : {A : Type 0} (p : Reads A) → run image (with_mapping m segments) p ≡ run image segments p
  unfolding run
  run_mapped (done a) = refl
  run_mapped nothing = refl
  run_mapped (bytes a n k) = rw (place_mapped a n) (then_same (bytes_place image segments a n) _ _ (λ o. run_mapped (k (take n (drop o image)))))
  run_mapped (text a k) =
      rw (offset_mapped a)
      (then_same (text_offset segments a) _ _ (λ o. then_same (text_at image o) _ _ (λ p. run_mapped (k p (until_nul (drop o image))))))

  pub name_mapped : (strings : List ℕ) (start a : ℕ) → field_name image (with_mapping m segments) strings start a ≡ field_name image segments strings start a
  unfolding field_name
  name_mapped strings start a = rw (text_mapped a)

module _ (image segments : List ℕ) (a n : ℕ) where
  pub bytes_at_lem : (o : ℕ) → Some o ≡ file_offset (segments_of segments) a → o + n ≤ length image → Some o ≡ bytes_place image segments a n
  unfolding bytes_place within
  bytes_at_lem o e h = rw (← e, within) (simp (le-leb (o + n) (length image) h))

  pub bytes_past : (o : ℕ) → Some o ≡ file_offset (segments_of segments) a → length image < o + n → None ≡ bytes_place image segments a n
  unfolding bytes_place within
  bytes_past o e h = rw (← e, within) (simp (lt-leb (o + n) (length image) h))

  pub bytes_nowhere : None ≡ file_offset (segments_of segments) a → None ≡ bytes_place image segments a n
  unfolding bytes_place
  bytes_nowhere e = rw (← e)

  -- bytes that were found lie within the image
  pub bytes_within : (o : ℕ) → Some o ≡ bytes_place image segments a n → o + n ≤ length image
  unfolding bytes_place within
  bytes_within o e = go (file_offset (segments_of segments) a) e
    where
      at : (q : ℕ) → Dec (q + n ≤ length image) → Some o ≡ within (length image) n q → o + n ≤ length image
      at q (yes h) e =
          let f : Some o ≡ Some q = simp (le-leb (q + n) (length image) h) at e in
          let g : o ≡ q = cc in
          omega arith
      at q (no h) e =
          let f : ◌≡◌ {A = Option ℕ} (Some o) None = simp (lt-leb (q + n) (length image) (omega arith)) at e in
          let z : ◌≡◌ {A = ℕ} 0 1 = cc in
          absurd (omega arith)

      go : (x : Option ℕ) → Some o ≡ and_then x (within (length image) n) → o + n ≤ length image
      go None e = let z : ◌≡◌ {A = ℕ} 0 1 = cc in absurd (omega arith)
      go (Some q) e = at q (dec_le (q + n) (length image)) e

  pub read_at_lem : (o : ℕ) (r : List ℕ) → Some o ≡ bytes_place image segments a n → r ≡ part_of image (place o n) → r ≡ bytes_read image segments a n
  unfolding bytes_read
  read_at_lem o r e p = p ∙ part_in image o n (bytes_within o e) ∙ rw (← e)

  pub read_nothing : None ≡ bytes_place image segments a n → [] ≡ bytes_read image segments a n
  unfolding bytes_read
  read_nothing e = rw (← e)

  module _ {A : Type 0} (k : List ℕ → Reads A) (r : List ℕ) (e : r ≡ bytes_read image segments a n) where
    -- as many bytes as requested: the program goes on with them
    pub run_bytes : 0 < n → n ≤ length r → run image segments (bytes a n k) ≡ run image segments (k r)
    unfolding run bytes_read
    run_bytes h l = go (bytes_place image segments a n) e
      where
        go : (x : Option ℕ) → r ≡ bytes_from image n x → and_then x (λ o. run image segments (k (take n (drop o image)))) ≡ run image segments (k r)
        go None f = absurd (omega (arith, ap length f))
        go (Some o) f = ap (λ (s : List ℕ). run image segments (k s)) (sym f)

    -- fewer: there is no answer
    pub run_no_bytes : length r < n → run image segments (bytes a n k) ≡ None
    unfolding run bytes_read
    run_no_bytes l = go (bytes_place image segments a n) refl
      where
        go : (x : Option ℕ) → bytes_place image segments a n ≡ x → and_then x (λ o. run image segments (k (take n (drop o image)))) ≡ None
        go None f = refl
        go (Some o) f =
            let w : o + n ≤ length image = bytes_within o (sym f) in
            let g : r ≡ take n (drop o image) = e ∙ ap (bytes_from image n) f in
            absurd (omega (arith, simp (length-take, length-drop) at (ap length g)))

module _ (image segments : List ℕ) (a : ℕ) where
  pub text_zero : a ≡ 0 → None ≡ text_place image segments a
  unfolding text_place text_offset
  text_zero h = simp (eq-eqb a 0 h)

  module _ (h : a ≡ 0 → ⊥) where
    pub text_at_lem : (o : ℕ) (x : Option Place) → Some o ≡ file_offset (segments_of segments) a → x ≡ text_at image o → x ≡ text_place image segments a
    unfolding text_place text_offset
    text_at_lem o x e t = simp (ne_eqb a 0 h) (t ∙ rw (← e))

    pub text_nowhere : None ≡ file_offset (segments_of segments) a → None ≡ text_place image segments a
    unfolding text_place text_offset
    text_nowhere e = simp (ne_eqb a 0 h) (rw (← e))

  -- a text that was looked up at an offset lies there, within the image, and its bytes are those before the NUL
  abbrev There : ℕ → Place → Type 0
  There o p = (p.start + p.size ≤ length image) × (until_nul (drop o image) ≡ part_of image p) × (place o p.size ≡ p)

  found_there : (o : ℕ) (p : Place) → text_at image o ≡ Some p → There o p
  unfolding text_at
  found_there o p e = go (dec_le o (length image))
    where
      at : o ≤ length image → (x : Option ℕ) → text_length (drop o image) ≡ x → option_map (place o) x ≡ Some p
          → There o p
      at h None t f = let z : ◌≡◌ {A = ℕ} 0 1 = cc in absurd (omega arith)
      at h (Some n) t f =
          let q : p ≡ place o n = cc in
          let fits : o + n ≤ length image = omega (arith, simp length-drop at (text_length_le (drop o image) n t)) in
          (rw q fits, sym (text_bytes (drop o image) n t) ∙ sym (part_in image o n fits) ∙ ap (part_of image) (sym q), rw q)

      go : Dec (o ≤ length image) → There o p
      go (yes h) = at h (text_length (drop o image)) refl (simp (le-leb o (length image) h) at e)
      go (no h) =
          let f : ◌≡◌ {A = Option Place} None (Some p) = simp (lt-leb o (length image) (omega arith)) at e in
          let z : ◌≡◌ {A = ℕ} 0 1 = cc in absurd (omega arith)

  pub text_there : (a ≡ 0 → ⊥) → (o : ℕ) (p : Place) → Some o ≡ file_offset (segments_of segments) a → Some p ≡ text_at image o
      → Some (place o p.size) ≡ text_place image segments a
  text_there h o p e t = ap Some (found_there o p (sym t)).2 ∙ text_at_lem h o (Some p) e t

  pub text_within : (p : Place) → Some p ≡ text_place image segments a → p.start + p.size ≤ length image
  unfolding text_place
  text_within p e = go (text_offset segments a) e
    where
      go : (x : Option ℕ) → Some p ≡ and_then x (text_at image) → p.start + p.size ≤ length image
      go None f = let z : ◌≡◌ {A = ℕ} 0 1 = cc in absurd (omega arith)
      go (Some o) f = (found_there o p (sym f)).0

  module _ {A : Type 0} (k : Place → List ℕ → Reads A) where
    -- a text that is found: the program goes on with its place and its bytes
    pub run_text : (p : Place) → Some p ≡ text_place image segments a → run image segments (text a k) ≡ run image segments (k p (part_of image p))
    unfolding run text_place
    run_text p e = go (text_offset segments a) e
      where
        at : (o : ℕ) (y : Option Place) → text_at image o ≡ y → Some p ≡ y → and_then y (λ q. run image segments (k q (until_nul (drop o image)))) ≡ run image segments (k p (part_of image p))
        at o None t f = let z : ◌≡◌ {A = ℕ} 0 1 = cc in absurd (omega arith)
        at o (Some q) t f =
            let s : q ≡ p = cc in
            ap (λ (l : List ℕ). run image segments (k q l)) (found_there o q t).1 ∙ ap (λ (z : Place). run image segments (k z (part_of image z))) s

        go : (x : Option ℕ) → Some p ≡ and_then x (text_at image) → and_then x (λ o. and_then (text_at image o) (λ q. run image segments (k q (until_nul (drop o image))))) ≡ run image segments (k p (part_of image p))
        go None f = let z : ◌≡◌ {A = ℕ} 0 1 = cc in absurd (omega arith)
        go (Some o) f = at o (text_at image o) refl f

    pub run_no_text : None ≡ text_place image segments a → run image segments (text a k) ≡ None
    unfolding run text_place
    run_no_text e = go (text_offset segments a) e
      where
        go : (x : Option ℕ) → None ≡ and_then x (text_at image) → and_then x (λ o. and_then (text_at image o) (λ q. run image segments (k q (until_nul (drop o image))))) ≡ None
        go None f = refl
        go (Some o) f = rw (← f)

module _ (strings : List ℕ) (start a : ℕ) where
  pub section_below : a < start → None ≡ section_text strings start a
  unfolding section_text
  section_below h = simp (lt-leb start a h)

  module _ (h : start ≤ a) where
    pub section_past : length strings ≤ a - start → None ≡ section_text strings start a
    unfolding section_text
    section_past p = simp (le-leb start a h, le-ltb (a - start) (length strings) p)

    pub section_at : (x : Option Place) → x ≡ text_at strings (a - start) → a - start < length strings → x ≡ section_text strings start a
    unfolding section_text
    section_at x e p = simp (le-leb start a h, lt-ltb (a - start) (length strings) p) e

module _ (image segments strings : List ℕ) (start a : ℕ) where
  pub name_zero : a ≡ 0 → None ≡ field_name image segments strings start a
  unfolding field_name
  name_zero h = simp (eq-eqb a 0 h)

  module _ (h : a ≡ 0 → ⊥) where
    pub name_image : (p : Place) → Some p ≡ text_place image segments a → Some (in_image p) ≡ field_name image segments strings start a
    unfolding field_name
    name_image p e = simp (ne_eqb a 0 h) (rw (← e))

    pub name_strings : (x : Option Place) → None ≡ text_place image segments a → x ≡ section_text strings start a → option_map in_strings x ≡ field_name image segments strings start a
    unfolding field_name
    name_strings x e s = simp (ne_eqb a 0 h) (rw (← e, ← s))
