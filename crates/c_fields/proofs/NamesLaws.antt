-- The names of a record and of a descriptor that are made from the numbers that the steps write are read at their own addresses.
use Rattle.std.specs.Prelude.{ℕ, ◌≡◌, refl, drop, Some}
use Rattle.field.specs.Records.{of_record}
use Rattle.field.specs.declared.iter.FieldDescriptor.{FieldDescriptor}
use Rattle.field.specs.declared.record.FieldRecord.{FieldRecord}
use Rattle.c_fields.specs.Fields.{descriptor_numbers, found_record_numbers}
use Rattle.c_fields.specs.Names.{record_by, descriptor_by}

pub descriptor_names : (next : ℕ) (d : FieldDescriptor)
    → ((descriptor_by (drop 2 (descriptor_numbers next (Some d)))).mangled_type_name_va ≡ d.mangled_type_name_va)
    × ((descriptor_by (drop 2 (descriptor_numbers next (Some d)))).superclass_va ≡ d.superclass_va)
descriptor_names next d = (refl, refl)

pub record_names : (next : ℕ) (r : FieldRecord)
    → ((record_by (drop 2 (found_record_numbers next (Some (of_record r))))).mangled_type_name_va ≡ r.mangled_type_name_va)
    × ((record_by (drop 2 (found_record_numbers next (Some (of_record r))))).field_name_va ≡ r.field_name_va)
record_names next r = (refl, refl)
