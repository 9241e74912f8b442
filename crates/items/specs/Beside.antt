-- What the calls return for a text: where it lies, and its bytes. One definition covers all texts that a listing looks up; the calls'
-- contracts have the same right-hand sides.
use Rattle.std.specs.Prelude.{ℕ, List, Bool, true, false, cond, Option, Some, None, option_map}
use Rattle.util.specs.Cstr.{part_of}
use Rattle.runtime.specs.Reads.{and_then, text_place, run}
use Rattle.runtime.specs.FieldName.{NamePlace, in_image, in_strings, section_text, field_name, name_part}
use Rattle.typedescriptor.specs.Row.{TypeRow}
use Rattle.type_body.specs.Body.{superclass_name}
use Rattle.field.specs.Fields.{descriptor_at}
use Rattle.field.specs.Records.{descriptor_record}
use Rattle.parent.specs.Context.{Name, context_name}
use Rattle.items.specs.Keys.{Sections}
use Rattle.items.specs.Items.{row_of_slot, body_of_slot, context_of_slot}
use Rattle.items.specs.Texts.{NameKey, record_name, record_type_name, name_of}

-- where the calls say that it lies, in the image or in the string section: none if there is no text, or no item that it stands beside
unfoldable pub told_at : List ℕ → List ℕ → List ℕ → ℕ → Sections → NameKey → Option NamePlace
told_at image segments strings start s (NameKey.descriptor i) = option_map (λ (r : TypeRow). in_image r.name) (run image segments (row_of_slot s i))
told_at image segments strings start s (NameKey.context i k) =
    and_then (run image segments (context_of_slot s i k))
    (λ h. option_map (λ (n : Name). in_image n.place) (context_name image segments h.address h.flags))
told_at image segments strings start s (NameKey.field j k) =
    and_then (run image segments (descriptor_record s.fields s.fields_start j k)) (λ e. field_name image segments strings start (record_name e))
told_at image segments strings start s (NameKey.superclass i) =
    and_then (run image segments (body_of_slot s i)) (λ b. option_map in_image (superclass_name image segments (Some b)))
told_at image segments strings start s (NameKey.field_type j k) =
    and_then (run image segments (descriptor_record s.fields s.fields_start j k)) (λ e. option_map in_image (text_place image segments (record_type_name e)))
told_at image segments strings start s (NameKey.descriptor_type j) =
    and_then (run image segments (descriptor_at s.fields s.fields_start j)) (λ d. option_map in_image (text_place image segments d.mangled_type_name_va))
told_at image segments strings start s (NameKey.descriptor_superclass j) =
    and_then (run image segments (descriptor_at s.fields s.fields_start j)) (λ d. option_map in_image (text_place image segments d.superclass_va))

-- a text: where it lies, and the bytes that `text_part` and `field_name_part` return for that place
pub record Beside : Type 0 where
  pub place : NamePlace
  pub bytes : List ℕ

abbrev pub with_part : List ℕ → List ℕ → Option NamePlace → Option Beside
with_part image strings x = option_map (λ p. record { place = p; bytes = name_part image strings (Some p) }) x

unfoldable pub beside_of : List ℕ → List ℕ → List ℕ → ℕ → Sections → NameKey → Option Beside
beside_of image segments strings start s n = with_part image strings (told_at image segments strings start s n)

-- ---- the string section's text at a name's address: only for the names of fields

abbrev pub is_field : NameKey → Bool
is_field (NameKey.descriptor i) = false
is_field (NameKey.context i k) = false
is_field (NameKey.field j k) = true
is_field (NameKey.superclass i) = false
is_field (NameKey.field_type j k) = false
is_field (NameKey.descriptor_type j) = false
is_field (NameKey.descriptor_superclass j) = false

abbrev pub section_beside : List ℕ → ℕ → ℕ → Option Beside
section_beside strings start a = option_map (λ p. record { place = in_strings p; bytes = part_of strings p }) (section_text strings start a)

unfoldable pub section_of : List ℕ → List ℕ → List ℕ → ℕ → Sections → NameKey → Option Beside
section_of image segments strings start s n = and_then (run image segments (name_of s n)) (λ a. cond (is_field n) (section_beside strings start a) None)
