-- What the tests on a part and on a text say about their definitions.
use Rattle.std.specs.Prelude.{◌≡◌, ℕ, zero, suc, ◌+◌, ◌-◌, ◌<◌, ◌≤◌, Bool, true, false, cond, List, [], ◌∷◌, length, take, drop, refl, Option, Some, None, option_map}
use Rattle.std.proofs.Math.Nat.{add-sub_cancel_left}
use Rattle.std.proofs.Common.{arith, sym, ◌∙◌, le-leb}
use Rattle.std.proofs.Math.Path.{ap}
use Rattle.std.proofs.Math.ListN.{length-drop}
use Rattle.std.proofs.Math.Seq.{take_all}
use Rattle.std.proofs.lemmas.Bool.{lt-leb}
use Rattle.utf8.specs.Text.{text_length, until_nul, well_formed}
use Rattle.util.specs.Cstr.{place, part_of, text_at, text_part, fixed_text}

module _ (s : List ℕ) (o n : ℕ) where
  pub part_in : o + n ≤ length s → part_of s (place o n) ≡ take n (drop o s)
  unfolding part_of
  part_in h = simp (le-leb (o + n) (length s) h)

  -- the part as a range of a slice gives it
  pub part_range : o + n ≤ length s → take (o + n - o) (drop o s) ≡ part_of s (place o n)
  part_range h = rw add-sub_cancel_left (sym (part_in h))

  pub part_out : length s < o + n → [] ≡ part_of s (place o n)
  unfolding part_of
  part_out h = simp (lt-leb (o + n) (length s) h)

module _ (s : List ℕ) (off : ℕ) where
  pub text_past : length s < off → None ≡ text_at s off
  unfolding text_at
  text_past h = simp (lt-leb off (length s) h)

  -- the text of the bytes from the offset on, as a range of a slice gives them
  pub text_scanned : (x : Option ℕ) → x ≡ text_length (take (length s - off) (drop off s)) → off ≤ length s → option_map (place off) x ≡ text_at s off
  unfolding text_at
  text_scanned x e h =
      let all : take (length s - off) (drop off s) ≡ drop off s = take_all (length s - off) (drop off s) (simp length-drop (omega arith)) in
      simp (le-leb off (length s) h) (ap (option_map (place off)) (e ∙ ap text_length all))

-- the bytes before the first NUL are the first ones
until_short : (s : List ℕ) → length (until_nul s) ≤ length s
unfolding until_nul
until_short [] = omega arith
until_short (zero ∷ s) = omega arith
until_short (suc b ∷ s) = omega (arith, until_short s)

until_first : (s : List ℕ) → take (length (until_nul s)) s ≡ until_nul s
unfolding until_nul
until_first [] = refl
until_first (zero ∷ s) = refl
until_first (suc b ∷ s) = ap (λ (t : List ℕ). suc b ∷ t) (until_first s)

-- a field's text is the text at its start
pub fixed_text_lem : (s : List ℕ) → text_part s (text_at s 0) ≡ fixed_text s
unfolding text_at text_length fixed_text
fixed_text_lem s = rw (le-leb 0 (length s) (omega arith)) (go (well_formed (until_nul s)))
  where
    go : (w : Bool) → text_part s (option_map (place 0) (elim w [ true ↦ Some (length (until_nul s)) | false ↦ None ])) ≡ cond w (until_nul s) []
    go true = part_in s 0 (length (until_nul s)) (omega (arith, until_short s)) ∙ until_first s
    go false = refl
