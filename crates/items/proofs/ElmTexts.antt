-- The premise on texts, worked through for all cuts of the image `Elm`: at which cuts it holds for the names of slots' descriptors, of
-- contexts and of field records, and at which it does not. A text that no name refers to has no premise (`ivy`, 149 to 152), though the
-- word after a context without a name refers to it; nor has the name of a field's type (`Si`, 160 to 162).
use Rattle.std.specs.Prelude.{ℕ, zero, suc, ◌≤◌, ◌<◌, ◌≡◌, refl, [], ◌∷◌, Bool, true, false, cond, ltb, Option, Some, None}
use Rattle.std.proofs.Common.{arith, inl, inr, ⊎_elim, le-ltb}
use Rattle.utf8.specs.Table.{table}
use Rattle.utf8.specs.Text.{following, goes_on, until_nul, text_length}
use Rattle.util.specs.LittleEndian.{little_endian, bytes_at, little_at, twos_complement, signed_at, unsigned_in, signed_in}
use Rattle.util.specs.Pointer.{relative_pointer, relative_address}
use Rattle.segment.specs.Segments.{segments_of, file_offset, decides, in_file}
use Rattle.util.specs.Cstr.{text_at}
use Rattle.runtime.specs.Reads.{Reads, nothing, within, bytes_place, text_offset, run, extent, bind}
use Rattle.context.specs.Context.{kind_of}
use Rattle.context.specs.Field.{field_kind}
use Rattle.typedescriptor.specs.Row.{row_name, descriptor}
use Rattle.typedescriptor.specs.Slots.{slot_row}
use Rattle.vtable.specs.Entries.{entry_at, up_to, entry}
use Rattle.field.specs.Fields.{field_step, descriptor_from, descriptor_at}
use Rattle.field.specs.Records.{descriptor_record}
use Rattle.parent.specs.Context.{Header, header_in, header}
use Rattle.parent.specs.Chain.{contexts_most, header_at}
use Rattle.items.specs.Items.{map_reads, row_of_slot, context_of_slot}
use Rattle.items.specs.Texts.{NameKey, descriptor_name, slot_name_address, context_name_at, name_of, ClearOf}
use Rattle.items.proofs.ClearLaws.{Outside, nowhere, there, asked}
use Rattle.items.proofs.Worked.{Table}
use Rattle.items.proofs.Elm.{elm_image, elm_segments, elm_sections}

-- the premise for one name, and where the name is looked up
abbrev Clears : ℕ → NameKey → Type 0
Clears c n = ClearOf elm_image elm_segments elm_sections c n

abbrev named : NameKey → Option ℕ
named n = run elm_image elm_segments (name_of elm_sections n)

-- ---- names that are looked up nowhere

no_row : (i : ℕ) → named (NameKey.descriptor (suc i)) ≡ None
unfolding run name_of slot_name_address
no_row i = rw (le-ltb (suc i) 1 (omega arith)) refl

-- the anonymous context, at 0x1078, has none; the module is the last context; a slot that does not exist has no context
anonymous : named (NameKey.context 0 0) ≡ None
unfolding run bind bytes_place within text_offset segments_of file_offset decides in_file table following goes_on text_at text_length until_nul unsigned_in signed_in little_at signed_at bytes_at little_endian twos_complement relative_address relative_pointer descriptor row_name slot_row header_in header header_at context_of_slot kind_of context_name_at name_of
anonymous = refl

no_context : (k : ℕ) → named (NameKey.context 0 (suc (suc k))) ≡ None
unfolding run bind bytes_place within text_offset segments_of file_offset decides in_file table following goes_on text_at text_length until_nul unsigned_in signed_in little_at signed_at bytes_at little_endian twos_complement relative_address relative_pointer descriptor row_name slot_row header_in header header_at context_of_slot kind_of context_name_at name_of
no_context k = go (ltb (suc (suc k)) contexts_most) k
  where
    go : (b : Bool) (k : ℕ) → run elm_image elm_segments (bind (cond b (bind (row_of_slot elm_sections 0) (λ r. header_at (suc (suc k)) r.parent)) nothing) context_name_at) ≡ None
    go true zero = refl
    go true (suc k) = refl
    go false k = refl

no_slot : (i k : ℕ) → named (NameKey.context (suc i) k) ≡ None
unfolding run bind slot_row context_of_slot name_of
no_slot i k = rw (le-ltb (suc i) 1 (omega arith)) (go (ltb k contexts_most))
  where
    lost : Reads Header
    lost = nothing

    go : (b : Bool) → run elm_image elm_segments (bind (cond b nothing lost) context_name_at) ≡ None
    go true = refl
    go false = refl

no_record : (k : ℕ) → named (NameKey.field 0 (suc (suc k))) ≡ None
unfolding run bind unsigned_in signed_in little_at signed_at bytes_at little_endian twos_complement relative_address relative_pointer entry field_step descriptor_from descriptor_at descriptor_record field_kind map_reads name_of
no_record k = rw (le-ltb (suc (suc k)) 2 (omega arith)) refl

no_descriptor : (j k : ℕ) → named (NameKey.field (suc j) k) ≡ None
unfolding run bind unsigned_in signed_in little_at signed_at bytes_at little_endian twos_complement relative_address relative_pointer entry field_step descriptor_from descriptor_at descriptor_record field_kind map_reads name_of
no_descriptor zero k = refl
no_descriptor (suc j) k = refl

-- ---- those that are

abbrev of_row : NameKey
of_row = NameKey.descriptor 0

abbrev of_module : NameKey
of_module = NameKey.context 0 1

abbrev of_field : ℕ → NameKey
of_field k = NameKey.field 0 k

pub record ElmTextsWorked : Type 0 where
  -- `Elm`, `Park`, `age` and `id`, by their addresses
  pub places : Table named ((of_row, Some 0x1000) ∷ (of_module, Some 0x1090) ∷ (of_field 0, Some 0x1099) ∷ (of_field 1, Some 0x109d) ∷ [])
  -- the cuts at which the names are clear: of all rows, of all contexts, of all records
  pub rows_clear : (c : ℕ) → 4 ≤ c → (i : ℕ) → Clears c (NameKey.descriptor i)
  pub contexts_clear : (c : ℕ) → Outside 144 149 c → (i k : ℕ) → Clears c (NameKey.context i k)
  pub fields_clear : (c : ℕ) → Outside 153 160 c → (j k : ℕ) → Clears c (NameKey.field j k)
  -- and at no others
  pub row_not_clear : (c : ℕ) → c < 4 → Clears c of_row → ⊥
  pub module_not_clear : (c : ℕ) → 144 ≤ c → c < 149 → Clears c of_module → ⊥
  pub field_0_not_clear : (c : ℕ) → 153 ≤ c → c < 157 → Clears c (of_field 0) → ⊥
  pub field_1_not_clear : (c : ℕ) → 157 ≤ c → c < 160 → Clears c (of_field 1) → ⊥

pub elm_texts_worked : ElmTextsWorked
unfolding run bind bytes_place within text_offset extent segments_of file_offset decides in_file table following goes_on text_at text_length until_nul unsigned_in signed_in little_at signed_at bytes_at little_endian twos_complement relative_address relative_pointer descriptor row_name slot_row descriptor_name slot_name_address header_in header header_at context_of_slot kind_of context_name_at entry_at up_to entry field_step descriptor_from descriptor_at descriptor_record field_kind map_reads name_of
elm_texts_worked =
    record {
      places = refl;
      rows_clear = rows;
      contexts_clear = contexts;
      fields_clear = fields;
      row_not_clear = λ c h w. ⊎_elim (λ l. omega arith) (λ l. omega arith) (asked elm_image elm_segments elm_sections c of_row 0x1000 0 refl refl w);
      module_not_clear = λ c h g w. ⊎_elim (λ l. omega arith) (λ l. omega arith) (asked elm_image elm_segments elm_sections c of_module 0x1090 144 refl refl w);
      field_0_not_clear = λ c h g w. ⊎_elim (λ l. omega arith) (λ l. omega arith) (asked elm_image elm_segments elm_sections c (of_field 0) 0x1099 153 refl refl w);
      field_1_not_clear = λ c h g w. ⊎_elim (λ l. omega arith) (λ l. omega arith) (asked elm_image elm_segments elm_sections c (of_field 1) 0x109d 157 refl refl w);
    }
  where
    rows : (c : ℕ) → 4 ≤ c → (i : ℕ) → Clears c (NameKey.descriptor i)
    rows c h zero = there elm_image elm_segments elm_sections c of_row 0x1000 0 refl refl (inr h)
    rows c h (suc i) = nowhere elm_image elm_segments elm_sections c (NameKey.descriptor (suc i)) (no_row i)

    contexts : (c : ℕ) → Outside 144 149 c → (i k : ℕ) → Clears c (NameKey.context i k)
    contexts c h zero zero = nowhere elm_image elm_segments elm_sections c (NameKey.context 0 0) anonymous
    contexts c h zero (suc zero) = there elm_image elm_segments elm_sections c of_module 0x1090 144 refl refl h
    contexts c h zero (suc (suc k)) = nowhere elm_image elm_segments elm_sections c (NameKey.context 0 (suc (suc k))) (no_context k)
    contexts c h (suc i) k = nowhere elm_image elm_segments elm_sections c (NameKey.context (suc i) k) (no_slot i k)

    fields : (c : ℕ) → Outside 153 160 c → (j k : ℕ) → Clears c (NameKey.field j k)
    fields c h zero zero = there elm_image elm_segments elm_sections c (of_field 0) 0x1099 153 refl refl (⊎_elim (λ l. inl l) (λ l. inr (omega arith)) h)
    fields c h zero (suc zero) = there elm_image elm_segments elm_sections c (of_field 1) 0x109d 157 refl refl (⊎_elim (λ l. inl (omega arith)) (λ l. inr l) h)
    fields c h zero (suc (suc k)) = nowhere elm_image elm_segments elm_sections c (NameKey.field 0 (suc (suc k))) (no_record k)
    fields c h (suc j) k = nowhere elm_image elm_segments elm_sections c (NameKey.field (suc j) k) (no_descriptor j k)
