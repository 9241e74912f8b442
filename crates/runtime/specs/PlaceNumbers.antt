-- Where a text or a field's name lies, in three numbers, as in lists of records and the calls for C: docs/SPECIFICATION.md, "Calls for C".
-- All are 0 if there is none.
use Rattle.std.specs.Prelude.{ℕ, List, [], ◌∷◌, Option, Some, None}
use Rattle.util.specs.declared.cstr.Place.{Place}
use Rattle.runtime.specs.FieldName.{NamePlace, in_image, in_strings}

abbrev pub text_numbers : Option Place → List ℕ
text_numbers None = 0 ∷ (0 ∷ (0 ∷ []))
text_numbers (Some p) = 1 ∷ (p.start ∷ (p.size ∷ []))

-- 1 for the image, 2 for the string section
abbrev pub field_numbers : Option NamePlace → List ℕ
field_numbers None = 0 ∷ (0 ∷ (0 ∷ []))
field_numbers (Some (in_image p)) = 1 ∷ (p.start ∷ (p.size ∷ []))
field_numbers (Some (in_strings p)) = 2 ∷ (p.start ∷ (p.size ∷ []))
