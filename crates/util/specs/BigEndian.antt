-- Numbers in bytes, the highest first (docs/SPECIFICATION.md, "Numbers in bytes"): the little-endian number of the reversed bytes.
use Rattle.std.specs.Prelude.{ℕ, List, reverse, Option, option_map}
use Rattle.util.specs.LittleEndian.{little_endian, bytes_at}

abbrev pub big_endian : List ℕ → ℕ
big_endian bytes = little_endian (reverse bytes)

unfoldable pub big_at : ℕ → List ℕ → ℕ → Option ℕ
big_at n s off = option_map big_endian (bytes_at n s off)
