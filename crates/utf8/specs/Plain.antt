-- Bytes that need no closer look: only for the first part of the walk; no definition of a text rests on it.
use Rattle.std.specs.Prelude.{ℕ, ◌+◌, ◌<◌, List, slice_index}

-- `n` bytes from a place on are ASCII, with no NUL among them
pub record Plain (s : List ℕ) (at n : ℕ) : Type 0 where
  pub each : (k : ℕ) → k < n → (0 < slice_index s (at + k)) × (slice_index s (at + k) < 0x80)
