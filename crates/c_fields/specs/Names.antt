-- docs/SPECIFICATION.md, "Calls for C". A field record and a field descriptor from their numbers, as the steps write them (`recordNumbers`,
-- `fieldStepNumbers`) after their first two: only the addresses of the names matter, at which the names are read.
use Rattle.std.specs.Prelude.{ℕ, List, get_or}
use Rattle.context.specs.declared.field.FieldDescriptorKind.{FieldDescriptorKind}
use Rattle.field.specs.declared.iter.FieldDescriptor.{FieldDescriptor}
use Rattle.field.specs.declared.record.FieldRecord.{FieldRecord}

-- address, flags, the addresses of the type's and the field's name
abbrev pub record_by : List ℕ → FieldRecord
record_by n =
    record { address = get_or n 0 0; flags = 0; mangled_type_name_va = get_or n 2 0; field_name_va = get_or n 3 0 }

-- address, kind, record size, count of records, the addresses of the type's and the superclass's name
abbrev pub descriptor_by : List ℕ → FieldDescriptor
descriptor_by n =
    record { address = get_or n 0 0; mangled_type_name_va = get_or n 4 0; superclass_va = get_or n 5 0; kind = FieldDescriptorKind.Struct; field_record_size = 0; num_fields = 0 }
