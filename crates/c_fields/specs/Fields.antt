-- docs/SPECIFICATION.md, "Calls for C". The steps over a fields section and over field records as numbers. A step that gives nothing starts
-- with 0, and one for an unreadable record with 2.
use Rattle.std.specs.Prelude.{ℕ, List, [], ◌∷◌, Option, Some, None}
use Rattle.vtable.specs.Entries.{Entry}
use Rattle.field.specs.Fields.{Step}
use Rattle.field.specs.Records.{RecordStep}
use Rattle.field.specs.declared.iter.FieldDescriptor.{FieldDescriptor}
use Rattle.field.specs.declared.record.FieldRecordIter.{FieldRecordIter}
use Rattle.c_numbers.specs.Flags.{field_kind_number}

-- the offset at which the walk then stands is among the numbers in both cases
abbrev pub descriptor_numbers : ℕ → Option FieldDescriptor → List ℕ
descriptor_numbers next None = 0 ∷ (next ∷ (0 ∷ (0 ∷ (0 ∷ (0 ∷ (0 ∷ (0 ∷ [])))))))
descriptor_numbers next (Some d) =
    1 ∷ (next ∷ (d.address ∷ (field_kind_number d.kind ∷ (d.field_record_size ∷ (d.num_fields ∷ (d.mangled_type_name_va ∷ (d.superclass_va ∷ [])))))))

abbrev pub field_step_numbers : Step → List ℕ
field_step_numbers s = descriptor_numbers s.next s.found

-- a record by its address and its words
abbrev pub found_record_numbers : ℕ → Option Entry → List ℕ
found_record_numbers next None = 2 ∷ (next ∷ (0 ∷ (0 ∷ (0 ∷ (0 ∷ [])))))
found_record_numbers next (Some e) = 1 ∷ (next ∷ (e.address ∷ e.words))

abbrev pub record_numbers : Option RecordStep → List ℕ
record_numbers None = 0 ∷ (0 ∷ (0 ∷ (0 ∷ (0 ∷ (0 ∷ [])))))
record_numbers (Some s) = found_record_numbers s.next.cursor s.found

-- a walk from its numbers
abbrev pub records_at : ℕ → ℕ → ℕ → ℕ → FieldRecordIter
records_at base count size next = record { base_va = base; count = count; entry_size = size; cursor = next }
