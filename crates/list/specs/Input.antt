-- What reading ended with (docs/SPECIFICATION.md, "The program").
use Rattle.std.specs.Prelude.{ℕ, ◌<◌, ◌≤◌, List, Option, Result, Ok, Err, length, take}
use Rattle.std.specs.Io.KnownBytes.{Consumes, IsAtEnd}
use Rattle.std.specs.declared.io.Error.{Error}

abbrev pub Came : List ℕ → Result ℕ Error → Type 0
Came space (Ok n) = n ≤ length space
Came space (Err e) = Unit

-- where a reader's bytes are known: what came are its first ones, and it has no others unless the space is full
abbrev pub CameFrom : Option (List ℕ) → Option (List ℕ) → List ℕ → Result ℕ Error → Type 0
CameFrom old new space (Ok n) = Consumes old new (take n space) × (n < length space → IsAtEnd new)
CameFrom old new space (Err e) = Unit
