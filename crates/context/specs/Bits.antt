-- The bits of a flags word, bit 0 the lowest: docs/SPECIFICATION.md, "Kinds and flags".
use Rattle.std.specs.Prelude.{ℕ, ◌/◌, ◌%◌, ◌^◌, Bool, eqb}

-- whether bit k is set
abbrev pub bit : ℕ → ℕ → Bool
bit k w = eqb (w / 2 ^ k % 2) 1

-- the number in the n lowest bits
abbrev pub low : ℕ → ℕ → ℕ
low n w = w % 2 ^ n

-- the number in the n bits from bit k on
abbrev pub bits : ℕ → ℕ → ℕ → ℕ
bits k n w = low n (w / 2 ^ k)
