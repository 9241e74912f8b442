-- Well-formed UTF-8: The Unicode Standard, Table 3-7 "Well-Formed UTF-8 Byte Sequences", row by row (docs/SPECIFICATION.md, "Texts").
use Rattle.std.specs.Prelude.{ℕ, ◌≤◌, List, [], ◌∷◌, ◌++◌}
use mathlib.Core.List.{Memᴰ}

-- the bytes from `low` to `high`, both included
pub record ByteRange : Type 0 where
  pub low : ℕ
  pub high : ℕ

abbrev pub ◌to◌ : ℕ → ℕ → ByteRange
l to h = record { low = l; high = h }

infix 70 ◌to◌
-- a row has a range for each byte of its sequences
unfoldable pub table : List (List ByteRange)
table =
    (0x00 to 0x7f ∷ []) ∷
    (0xc2 to 0xdf ∷ 0x80 to 0xbf ∷ []) ∷
    (0xe0 to 0xe0 ∷ 0xa0 to 0xbf ∷ 0x80 to 0xbf ∷ []) ∷
    (0xe1 to 0xec ∷ 0x80 to 0xbf ∷ 0x80 to 0xbf ∷ []) ∷
    (0xed to 0xed ∷ 0x80 to 0x9f ∷ 0x80 to 0xbf ∷ []) ∷
    (0xee to 0xef ∷ 0x80 to 0xbf ∷ 0x80 to 0xbf ∷ []) ∷
    (0xf0 to 0xf0 ∷ 0x90 to 0xbf ∷ 0x80 to 0xbf ∷ 0x80 to 0xbf ∷ []) ∷
    (0xf1 to 0xf3 ∷ 0x80 to 0xbf ∷ 0x80 to 0xbf ∷ 0x80 to 0xbf ∷ []) ∷
    (0xf4 to 0xf4 ∷ 0x80 to 0x8f ∷ 0x80 to 0xbf ∷ 0x80 to 0xbf ∷ []) ∷
    []

-- a sequence of a row: as many bytes as ranges, each byte in its range
pub data Sequence : List ByteRange → List ℕ → Type 0 where
  none : Sequence [] []
  byte : {r : ByteRange} {rs : List ByteRange} {b : ℕ} {bs : List ℕ} → r.low ≤ b → b ≤ r.high → Sequence rs bs → Sequence (r ∷ rs) (b ∷ bs)

-- a well-formed text: sequences of the table's rows, one after the other
pub data WellFormed : List ℕ → Type 0 where
  empty : WellFormed []
  sequence : {row : List ByteRange} {s t : List ℕ} → Memᴰ row table → Sequence row s → WellFormed t → WellFormed (s ++ t)
