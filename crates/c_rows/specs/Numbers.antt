-- docs/SPECIFICATION.md, "Calls for C". The answers of the calls as a status and a fixed number of numbers in the caller's array. If there
-- is nothing, all numbers are 0.
use Rattle.std.specs.Prelude.{ℕ, ◌≡◌, List, [], ◌∷◌, Option, Some, None}
use Rattle.refusal.specs.Refusal.{Guarded, answered, refused}
use Rattle.util.specs.Cstr.{place, part_of}
use Rattle.typedescriptor.specs.Row.{TypeRow}
use Rattle.typedescriptor.specs.Slots.{Found}
use Rattle.parent.specs.Context as context
use Rattle.parent.specs.Chain.{Step}

-- 0, or the refusal's number
abbrev pub status : {A : Type 0} → Guarded A → ℕ
status (answered a) = 0
status (refused n) = n

-- the array after a call that writes numbers: unchanged if the call refuses
abbrev pub over_out : List ℕ → Guarded (List ℕ) → List ℕ
over_out out (answered numbers) = numbers
over_out out (refused n) = out

-- what a call with this answer or refusal returns, and the array after it
pub record Tells (answer : Guarded (List ℕ)) (out : List ℕ) (r : ℕ) (out' : List ℕ) : Type 0 where
  pub gives : r ≡ status answer
  pub writes : out' ≡ over_out out answer

-- a single number
abbrev pub value_numbers : Option ℕ → List ℕ
value_numbers None = 0 ∷ (0 ∷ [])
value_numbers (Some o) = 1 ∷ (o ∷ [])

abbrev pub row_numbers : Option Found → List ℕ
row_numbers None = 0 ∷ (0 ∷ (0 ∷ (0 ∷ (0 ∷ (0 ∷ (0 ∷ (0 ∷ [])))))))
row_numbers (Some f) =
    1 ∷ (f.slot ∷ (f.next ∷ (f.row.address ∷ (f.row.flags ∷ (f.row.parent ∷ (f.row.name.start ∷ (f.row.name.size ∷ [])))))))

abbrev pub context_numbers : Option context.Name → List ℕ
context_numbers None = 0 ∷ (0 ∷ (0 ∷ []))
context_numbers (Some n) = 1 ∷ (n.place.start ∷ (n.place.size ∷ []))

abbrev pub chain_step_numbers : Option Step → List ℕ
chain_step_numbers None = 0 ∷ (0 ∷ (0 ∷ (0 ∷ (0 ∷ (0 ∷ (0 ∷ (0 ∷ [])))))))
chain_step_numbers (Some s) =
    1 ∷ (s.context.header.address ∷ (s.context.header.flags ∷ (s.next ∷ (s.given ∷ context_numbers s.context.name))))

-- a single length
abbrev pub one_number : ℕ → List ℕ
one_number n = n ∷ []

-- a row of which only the parent and the name are known
abbrev pub named_row : List ℕ → ℕ → ℕ → ℕ → TypeRow
named_row image parent start size =
    record { address = 0; flags = 0; parent = parent; name = place start size; name_bytes = part_of image (place start size) }
