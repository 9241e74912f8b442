-- docs/SPECIFICATION.md, "Calls for C". The answers of the readers of numbers, texts and offsets as lists of numbers. If there is nothing,
-- all numbers are 0.
use Rattle.std.specs.Prelude.{ℕ, ◌^◌, List, [], ◌∷◌, length, ℤ, Option, Some, None}
use Rattle.util.specs.Pointer.{modulo}

unfoldable pub uleb_numbers : Option (ℕ × ℕ) → List ℕ
uleb_numbers None = 0 ∷ (0 ∷ (0 ∷ []))
uleb_numbers (Some (n, consumed)) = 1 ∷ (n ∷ (consumed ∷ []))

-- a signed number as its 64 bits
unfoldable pub sleb_numbers : Option (ℤ × ℕ) → List ℕ
sleb_numbers None = 0 ∷ (0 ∷ (0 ∷ []))
sleb_numbers (Some (z, consumed)) = 1 ∷ (modulo z (2 ^ 64) ∷ (consumed ∷ []))

-- a text that always exists, from the first byte on
unfoldable pub length_numbers : List ℕ → List ℕ
length_numbers t = 1 ∷ (length t ∷ [])
