-- The texts of the image `Elm`, worked through: what the calls return for each, place and bytes, and what becomes of them in cuts. The cut
-- to 152 does not fall into a text that the listing looks up: the premise over all texts holds there, though a text that nothing refers to
-- lies across the cut.
use Rattle.std.specs.Prelude.{ℕ, zero, suc, ◌≡◌, refl, List, [], ◌∷◌, ◌++◌, take, drop, Option, Some, None}
use Rattle.std.proofs.Common.{arith, ap, ◌∙◌, inl, inr, le-ltb}
use Rattle.utf8.specs.Table.{table}
use Rattle.utf8.specs.Text.{following, goes_on, until_nul, text_length}
use Rattle.util.specs.Letters.{letters}
use Rattle.util.specs.LittleEndian.{little_endian, bytes_at, little_at, twos_complement, signed_at, unsigned_in, signed_in}
use Rattle.util.specs.Pointer.{relative_pointer, relative_address}
use Rattle.segment.specs.Segments.{segments_of, file_offset, decides, in_file}
use Rattle.util.specs.Cstr.{place, text_at, part_of}
use Rattle.runtime.specs.Reads.{within, bytes_place, text_offset, text_place, run, extent, bind}
use Rattle.runtime.specs.FieldName.{in_image, in_strings, section_text, field_name}
use Rattle.context.specs.Context.{kind_of}
use Rattle.context.specs.Field.{field_kind}
use Rattle.typedescriptor.specs.Row.{row_name, descriptor}
use Rattle.typedescriptor.specs.Slots.{slot_row}
use Rattle.type_body.specs.Body.{struct_body, body_bytes, body, slot_body}
use Rattle.vtable.specs.Entries.{entry_at, up_to, entry}
use Rattle.field.specs.Fields.{field_step, descriptor_from, descriptor_at}
use Rattle.field.specs.Records.{descriptor_record}
use Rattle.parent.specs.Context.{header_in, header, name, name_at, slot_name, context_name}
use Rattle.parent.specs.Chain.{header_at}
use Rattle.items.specs.Keys.{Sections, Key}
use Rattle.items.specs.Items.{map_reads, context_of_slot, item}
use Rattle.items.specs.Texts.{NameKey, context_name_at, name_of, ClearOf}
use Rattle.items.specs.Beside.{told_at, Beside, beside_of}
use Rattle.items.proofs.ClearLaws.{nowhere, there}
use Rattle.items.proofs.TextsLaws.{beside_key, no_item}
use Rattle.items.proofs.ListedLaws.{no_slot, no_row, no_record}
use Rattle.items.proofs.Worked.{Table}
use Rattle.items.proofs.Elm.{elm_image, elm_segments}
use Rattle.items.proofs.Elm as Elm
use Rattle.items.proofs.ElmTexts as ElmTexts

-- the sections, and those in which the field descriptor has the names of a type, at 0x1000, and of a superclass, at 0x10a0
abbrev named : Sections
named =
    record {
      types = (Elm.elm_sections).types;
      types_start = (Elm.elm_sections).types_start;
      fields = 0xb8 ∷ 0xff ∷ 0xff ∷ 0xff ∷ (84 ∷ 0 ∷ 0 ∷ 0 ∷ drop 8 (Elm.elm_sections).fields);
      fields_start = (Elm.elm_sections).fields_start;
    }

-- the string section has `old` at the address of field 0's name
abbrev strings : List ℕ
strings = letters "old" ++ 0 ∷ []

abbrev told : List ℕ → NameKey → Option Beside
told i n = beside_of i elm_segments strings 0x1099 named n

-- these bytes at an offset of the image
abbrev text : ℕ → ℕ → List ℕ → Option Beside
text o n t = Some (record { place = in_image (place o n); bytes = t })

abbrev Clears : NameKey → Type 0
Clears n = ClearOf elm_image elm_segments Elm.elm_sections 152 n

pub record ElmBesideWorked : Type 0 where
  pub says : Table (told elm_image)
      -- the names of a row, of a module (an anonymous context has none) and of two fields
      ((NameKey.descriptor 0, text 0 3 (letters "Elm"))
      ∷ (NameKey.context 0 0, None)
      ∷ (NameKey.context 0 1, text 144 4 (letters "Park"))
      ∷ (NameKey.field 0 0, text 153 3 (letters "age"))
      ∷ (NameKey.field 0 1, text 157 2 (letters "id"))
      -- and of other types; a struct has no superclass
      ∷ (NameKey.field_type 0 1, text 160 2 (letters "Si"))
      ∷ (NameKey.descriptor_type 0, text 0 3 (letters "Elm"))
      ∷ (NameKey.descriptor_superclass 0, text 160 2 (letters "Si"))
      ∷ (NameKey.superclass 0, None)
      ∷ [])
  -- cut to 152: the module's name is whole; the names of fields and types are lost, but the string section has one of them
  pub cut_152 : Table (told (take 152 elm_image))
      ((NameKey.context 0 1, told elm_image (NameKey.context 0 1))
      ∷ (NameKey.field 0 0, Some (record { place = in_strings (place 0 3); bytes = letters "old" }))
      ∷ (NameKey.field 0 1, None)
      ∷ (NameKey.field_type 0 1, None)
      ∷ [])
  -- cut to 143: the module is present without its name, though its offset arrived; cut to 115: field 1 and its name are lost
  pub lost_name : told (take 143 elm_image) (NameKey.context 0 1) ≡ None
  pub lost_field : told (take 115 elm_image) (NameKey.field 0 1) ≡ None
  -- the premise over all texts
  pub clear : (n : NameKey) → Clears n

-- ---- texts beside items that do not exist

lost : (n : NameKey) (k : Key) → beside_key n ≡ Some k → run elm_image elm_segments (item Elm.elm_sections k) ≡ None → Clears n
lost n k e f = nowhere elm_image elm_segments Elm.elm_sections 152 n (no_item elm_image elm_segments Elm.elm_sections n k e f)

no_records : (k : ℕ) → run elm_image elm_segments (item Elm.elm_sections (Key.field_record 0 (suc (suc k)))) ≡ None
unfolding run bind unsigned_in signed_in little_at signed_at bytes_at little_endian twos_complement relative_address relative_pointer entry field_step descriptor_from descriptor_at descriptor_record field_kind map_reads item
no_records k = rw (le-ltb (suc (suc k)) 2 (omega arith)) refl

no_descriptors : (j : ℕ) → run elm_image elm_segments (item Elm.elm_sections (Key.field_descriptor (suc j))) ≡ None
unfolding run bind unsigned_in signed_in little_at signed_at bytes_at little_endian twos_complement relative_address relative_pointer field_step descriptor_from descriptor_at field_kind map_reads item
no_descriptors zero = refl
no_descriptors (suc j) = refl

pub elm_beside_worked : ElmBesideWorked
unfolding run bind bytes_place within text_offset text_place extent segments_of file_offset decides in_file table following goes_on text_at part_of text_length until_nul unsigned_in signed_in little_at signed_at bytes_at little_endian twos_complement relative_address relative_pointer descriptor row_name slot_row header_in header name name_at slot_name context_name header_at context_of_slot kind_of context_name_at struct_body body_bytes body slot_body entry_at up_to entry field_step descriptor_from descriptor_at descriptor_record field_kind map_reads name_of section_text field_name told_at beside_of
elm_beside_worked = record { says = refl; cut_152 = refl; lost_name = refl; lost_field = refl; clear = all }
  where
    type_at : (k : ℕ) → run elm_image elm_segments (name_of Elm.elm_sections (NameKey.field_type 0 k)) ≡ Some 0x10a0 → Clears (NameKey.field_type 0 k)
    type_at k e = there elm_image elm_segments Elm.elm_sections 152 (NameKey.field_type 0 k) 0x10a0 160 e refl (inl (omega arith))

    -- no text is looked up at address 0
    at_zero : (n : NameKey) → run elm_image elm_segments (name_of Elm.elm_sections n) ≡ Some 0 → Clears n
    at_zero n e a f o g =
        let q : 0 ≡ a = cc in
        let u : ◌≡◌ {A = Option ℕ} None (Some o) = ap (text_offset elm_segments) q ∙ g in
        let z : ◌≡◌ {A = ℕ} 0 1 = cc in
        absurd (omega arith)

    all : (n : NameKey) → Clears n
    all (NameKey.descriptor i) = (ElmTexts.elm_texts_worked).rows_clear 152 (omega arith) i
    all (NameKey.context i k) = (ElmTexts.elm_texts_worked).contexts_clear 152 (inr (omega arith)) i k
    all (NameKey.field j k) = (ElmTexts.elm_texts_worked).fields_clear 152 (inl (omega arith)) j k
    all (NameKey.superclass zero) = nowhere elm_image elm_segments Elm.elm_sections 152 (NameKey.superclass 0) refl
    all (NameKey.superclass (suc i)) = lost (NameKey.superclass (suc i)) (Key.body (suc i)) refl (no_row elm_image elm_segments Elm.elm_sections (Key.body (suc i)) (suc i) refl (no_slot elm_image elm_segments Elm.elm_sections (suc i) (omega arith)))
    all (NameKey.field_type zero zero) = type_at 0 refl
    all (NameKey.field_type zero (suc zero)) = type_at 1 refl
    all (NameKey.field_type zero (suc (suc k))) = lost (NameKey.field_type 0 (suc (suc k))) (Key.field_record 0 (suc (suc k))) refl (no_records k)
    all (NameKey.field_type (suc j) k) = lost (NameKey.field_type (suc j) k) (Key.field_record (suc j) k) refl (no_record elm_image elm_segments Elm.elm_sections (suc j) k (no_descriptors j))
    all (NameKey.descriptor_type zero) = at_zero (NameKey.descriptor_type 0) refl
    all (NameKey.descriptor_type (suc j)) = lost (NameKey.descriptor_type (suc j)) (Key.field_descriptor (suc j)) refl (no_descriptors j)
    all (NameKey.descriptor_superclass zero) = at_zero (NameKey.descriptor_superclass 0) refl
    all (NameKey.descriptor_superclass (suc j)) = lost (NameKey.descriptor_superclass (suc j)) (Key.field_descriptor (suc j)) refl (no_descriptors j)
