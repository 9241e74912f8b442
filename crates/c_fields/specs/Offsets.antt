-- docs/SPECIFICATION.md, "Calls for C". Where field offsets lie, as numbers.
use Rattle.std.specs.Prelude.{ℕ, List, [], ◌∷◌, Option, Some, None}
use Rattle.field_offsets.specs.declared.offsets.FieldOffsets.{FieldOffsets}

abbrev pub offsets_numbers : Option FieldOffsets → List ℕ
offsets_numbers None = 0 ∷ (0 ∷ (0 ∷ []))
offsets_numbers (Some v) = 1 ∷ (v.place ∷ (v.count ∷ []))
