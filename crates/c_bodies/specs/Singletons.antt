-- docs/SPECIFICATION.md, "Calls for C". A singleton initialization as four numbers: 1 and its three
-- addresses; all are 0 if there is none.
use Rattle.std.specs.Prelude.{ℕ, List, [], ◌∷◌, Option, Some, None}
use Rattle.type_body.specs.Singleton.{Initialization}

abbrev pub init_numbers : Option Initialization → List ℕ
init_numbers None = 0 ∷ (0 ∷ (0 ∷ (0 ∷ [])))
init_numbers (Some i) = 1 ∷ (i.cache ∷ (i.incomplete ∷ (i.completion ∷ [])))
