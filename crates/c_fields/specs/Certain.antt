-- docs/SPECIFICATION.md, "Calls for C". Whether something is certain, as a number.
use Rattle.std.specs.Prelude.{ℕ, List, [], ◌∷◌, Bool, true, false}

abbrev pub certain_number : Bool → List ℕ
certain_number true = 1 ∷ []
certain_number false = 0 ∷ []
