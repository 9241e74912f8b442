-- What an answer says about its numbers.
use Rattle.std.specs.Prelude.{ℕ, ◌^◌, ◌≡◌, List, [], ◌∷◌, length, ℤ, Option, Some, None}
use Rattle.std.proofs.Common.{ap}
use Rattle.util.specs.Pointer.{modulo}
use Rattle.c_rows.specs.Numbers.{value_numbers}
use Rattle.c_numbers.specs.Readers.{uleb_numbers, sleb_numbers, length_numbers}

pub value_given : (m n : ℕ) (x : Option ℕ) → Some m ≡ x → n ≡ m → 1 ∷ (n ∷ []) ≡ value_numbers x
value_given m n x e f = rw f (ap value_numbers e)

pub no_value : (x : Option ℕ) → None ≡ x → 0 ∷ (0 ∷ []) ≡ value_numbers x
no_value x e = ap value_numbers e

pub uleb_given : (n k c : ℕ) (x : Option (ℕ × ℕ)) → Some (n, k) ≡ x → c ≡ k → 1 ∷ (n ∷ (c ∷ [])) ≡ uleb_numbers x
unfolding uleb_numbers
uleb_given n k c x e f = rw f (ap uleb_numbers e)

pub no_uleb : (x : Option (ℕ × ℕ)) → None ≡ x → 0 ∷ (0 ∷ (0 ∷ [])) ≡ uleb_numbers x
unfolding uleb_numbers
no_uleb x e = ap uleb_numbers e

pub sleb_given : (z : ℤ) (n k c : ℕ) (x : Option (ℤ × ℕ)) → Some (z, k) ≡ x → n ≡ modulo z (2 ^ 64) → c ≡ k → 1 ∷ (n ∷ (c ∷ [])) ≡ sleb_numbers x
unfolding sleb_numbers
sleb_given z n k c x e f g = rw (f, g) (ap sleb_numbers e)

pub no_sleb : (x : Option (ℤ × ℕ)) → None ≡ x → 0 ∷ (0 ∷ (0 ∷ [])) ≡ sleb_numbers x
unfolding sleb_numbers
no_sleb x e = ap sleb_numbers e

pub length_given : (t u : List ℕ) (n : ℕ) → t ≡ u → n ≡ length t → 1 ∷ (n ∷ []) ≡ length_numbers u
unfolding length_numbers
length_given t u n e f = rw (f, e)
