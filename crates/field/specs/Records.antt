-- Field records: docs/SPECIFICATION.md, "Fields"; RemoteInspection/Records.h, `FieldRecord`. They are entries of three words (crate
-- `vtable`, `Entries`) that lie a descriptor's record size apart: an entry of 12 bytes, whatever the record size.
use Rattle.std.specs.Prelude.{ℕ, ◌+◌, ◌^◌, cond, List, [], ◌∷◌, nat_le, Option, Some, None, option_map}
use Rattle.runtime.specs.Reads.{Reads, bind}
use Rattle.vtable.specs.declared.iter.EntryIter.{EntryIter}
use Rattle.vtable.specs.declared.shape.Word.{Word}
use Rattle.vtable.specs.declared.shape.Word.TheVariants.{Number as number, Pointer as pointer}
use Rattle.vtable.specs.Entries.{Layout, Entry, entry, Step, entry_step}
use Rattle.field.specs.declared.iter.FieldDescriptor.{FieldDescriptor}
use Rattle.field.specs.declared.record.FieldRecord.{FieldRecord}
use Rattle.field.specs.declared.record.FieldRecordIter.{FieldRecordIter}
use Rattle.field.specs.declared.record.FieldRecordStep.{FieldRecordStep}
use Rattle.field.specs.Fields.{descriptor_at}

-- flags, type name, field name
abbrev pub record_words : List Word
record_words = number ∷ pointer ∷ pointer ∷ []

abbrev pub record_layout : ℕ → Layout
record_layout size = record { words = record_words; stride = size }

-- record `k` of a list: the records 0 to `k` are read
abbrev pub field_record : ℕ → ℕ → ℕ → ℕ → Reads Entry
field_record base size count k = entry (record_layout size) base count k

-- the records of a descriptor start after its header; at 0 if that address reaches 2^64
abbrev pub records_base : ℕ → ℕ
records_base a = cond (nat_le (2 ^ 64) (a + 16)) 0 (a + 16)

abbrev pub records_of : FieldDescriptor → FieldRecordIter
records_of d =
    record { base_va = records_base d.address; count = d.num_fields; entry_size = d.field_record_size; cursor = 0 }

-- record `k` of descriptor `j` of the section
unfoldable pub descriptor_record : List ℕ → ℕ → ℕ → ℕ → Reads Entry
descriptor_record fields vmaddr j k =
    bind (descriptor_at fields vmaddr j) (λ d. field_record (records_base d.address) d.field_record_size d.num_fields k)

-- a walk over records is a walk over entries, with the record size
abbrev pub entries_of : FieldRecordIter → EntryIter
entries_of c = record { base_va = c.base_va; count = c.count; next = c.cursor }

abbrev pub records_from : ℕ → EntryIter → FieldRecordIter
records_from size c = record { base_va = c.base_va; count = c.count; entry_size = size; cursor = c.next }

pub record RecordStep : Type 0 where
  pub found : Option Entry
  pub next : FieldRecordIter

abbrev pub sized : ℕ → Step → RecordStep
sized size s = record { found = s.found; next = records_from size s.next }

-- a single step
abbrev pub record_step : List ℕ → List ℕ → FieldRecordIter → Option RecordStep
record_step image segments c =
    option_map (sized c.entry_size) (entry_step image segments (record_layout c.entry_size) (entries_of c))

-- the answers
abbrev pub of_record : FieldRecord → Entry
of_record r = record { address = r.address; words = r.flags ∷ (r.mangled_type_name_va ∷ (r.field_name_va ∷ [])) }

abbrev pub record_step_of : FieldRecordStep → Option RecordStep
record_step_of (FieldRecordStep.Record r c) = Some (record { found = Some (of_record r); next = c })
record_step_of (FieldRecordStep.Unreadable c) = Some (record { found = None; next = c })
record_step_of FieldRecordStep.End = None
