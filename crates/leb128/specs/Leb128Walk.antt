-- What a walk over the bytes of a number has found, for the functions inside the readers.
use Rattle.std.specs.Prelude.{ℕ, ◌-◌, ◌%◌, ◌^◌, ◌≤◌, ◌<◌, ◌≡◌, List, length, take, get_or, Option, Some, None}
use Rattle.leb128.specs.Leb128.{encoding, unsigned_number, word}
use Rattle.leb128.specs.declared.leb128.Chunks.{Chunks}

-- the first `i` bytes are all continuation bytes, and have these bits
pub record Running (s : List ℕ) (i bits : ℕ) : Type 0 where
  pub on : (k : ℕ) → k < i → 128 ≤ get_or s k 0
  pub within : i ≤ length s
  pub low : bits ≡ unsigned_number (take i s)

-- an encoding of up to eleven bytes: its low 64 bits, the weight of the bit after its last in 64 bits, its last byte, and its length
pub record Chunk (s : List ℕ) (bits weight last count : ℕ) : Type 0 where
  pub is : encoding s ≡ Some (take count s)
  pub within : (1 ≤ count) × (count ≤ 11) × (count ≤ length s)
  pub low : bits ≡ word (take count s)
  pub above : weight ≡ 128 ^ count % 2 ^ 64
  pub ends : (last ≡ get_or s (count - 1) 0) × (last < 128)

abbrev pub Chunked : List ℕ → Option Chunks → Type 0
Chunked s None = (e : List ℕ) → encoding s ≡ Some e → 11 < length e
Chunked s (Some c) = Chunk s c.bits c.weight c.last c.count
