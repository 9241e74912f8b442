-- The rows that some steps of a walk over the slots give, and where the walk then stands.
use Rattle.std.specs.Prelude.{ℕ, zero, suc, List, [], ◌∷◌, Some, None}
use Rattle.typedescriptor.specs.Slots.{Found, next_row}

-- the rows that at most `n` steps from slot `i` on give, each step from where the one before it left off
unfoldable pub stepped_rows : List ℕ → List ℕ → List ℕ → ℕ → ℕ → ℕ → List Found
stepped_rows image segments types start zero i = []
stepped_rows image segments types start (suc n) i =
    elim (next_row image segments types start i) [ None ↦ [] | Some f ↦ f ∷ stepped_rows image segments types start n f.next ]

-- and the slot at which they leave off
unfoldable pub stepped_rows_to : List ℕ → List ℕ → List ℕ → ℕ → ℕ → ℕ → ℕ
stepped_rows_to image segments types start zero i = i
stepped_rows_to image segments types start (suc n) i =
    elim (next_row image segments types start i) [ None ↦ i | Some f ↦ stepped_rows_to image segments types start n f.next ]
