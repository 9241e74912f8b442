-- The answers of the calls that read bytes: docs/SPECIFICATION.md, "Bytes and texts at an address".
use Rattle.std.specs.Prelude.{ℕ, List, [], take, drop, Option, Some, None}
use Rattle.runtime.specs.Reads.{bytes_place}

-- the bytes at a place, none if there is none
abbrev pub bytes_from : List ℕ → ℕ → Option ℕ → List ℕ
bytes_from image n None = []
bytes_from image n (Some o) = take n (drop o image)

unfoldable pub bytes_read : List ℕ → List ℕ → ℕ → ℕ → List ℕ
bytes_read image segments address n = bytes_from image n (bytes_place image segments address n)
