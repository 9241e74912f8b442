-- Where the scan of a text stands, for the contracts inside it; no definition of a text rests on it.
use Rattle.std.specs.Prelude.{◌≡◌, ℕ, ◌+◌, ◌<◌, ◌≤◌, List, [], ◌∷◌, length, drop, replicate, Some}
use Rattle.utf8.specs.Table.{ByteRange, table, ◌to◌}
use Rattle.utf8.specs.Text.{following, goes_on, until_nul}

-- the walk is at i, with these ranges pending: the text is well-formed if what is left goes on in them, and is i bytes longer than that
pub record ScanAt (s : List ℕ) (i : ℕ) (rs : List ByteRange) : Type 0 where
  pub formed : goes_on (until_nul s) [] ≡ goes_on (until_nul (drop i s)) rs
  pub size : length (until_nul s) ≡ i + length (until_nul (drop i s))

-- the ranges of n more bytes of a sequence
abbrev pub others : ℕ → List ByteRange
others n = replicate n (0x80 to 0xbf)

-- every byte from `first` to `last` starts sequences whose second byte is from `low` to BF, with `more` bytes after it
pub record RowOf (first last low more : ℕ) : Type 0 where
  pub bounds : (0 < first) × (0 < low) × (more ≤ 2)
  pub each : (b : ℕ) → first ≤ b → b ≤ last → Some (low to 0xbf ∷ others more) ≡ following table b
