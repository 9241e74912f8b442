-- A piece of a text in a buffer: docs/SPECIFICATION.md, "The caller's buffers".
use Rattle.std.specs.Prelude.{◌≡◌, ℕ, ◌+◌, Bool, cond, List, ◌++◌, length, take, drop, nat_le, Option, Some, None}

-- the buffer with a piece at a place
abbrev pub pasted : List ℕ → ℕ → List ℕ → List ℕ
pasted buffer at piece = take at buffer ++ (piece ++ drop (at + length piece) buffer)

-- the buffer with a text at its start
abbrev pub at_start : List ℕ → List ℕ → List ℕ
at_start t buffer = t ++ drop (length t) buffer

-- the buffer after a call that writes a text at its start: unchanged if the call writes none
abbrev pub overwritten : List ℕ → Option (List ℕ) → List ℕ
overwritten buffer None = buffer
overwritten buffer (Some t) = at_start t buffer

abbrev pub fits_in : List ℕ → ℕ → List ℕ → Bool
fits_in buffer at piece = nat_le (at + length piece) (length buffer)

-- where a piece that is put at a place ends, and the buffer after that: a piece that does not fit leaves it unchanged
unfoldable pub put_end : List ℕ → ℕ → List ℕ → ℕ
put_end buffer at piece = cond (fits_in buffer at piece) (at + length piece) at

unfoldable pub put_into : List ℕ → ℕ → List ℕ → List ℕ
put_into buffer at piece = cond (fits_in buffer at piece) (pasted buffer at piece) buffer

-- a piece was put at a place: where it ends, and the buffer after that
pub record Put (buffer : List ℕ) (at : ℕ) (piece : List ℕ) (end : ℕ) (buffer' : List ℕ) : Type 0 where
  pub ends : end ≡ at + length piece
  pub holds : buffer' ≡ pasted buffer at piece
