-- The records of a field descriptor with both names, ten numbers each in the caller's list: docs/SPECIFICATION.md, "Named records".
use Rattle.std.specs.Prelude.{ℕ, ◌/◌, List, ◌++◌, length, get_or}
use Rattle.refusal.specs.Refusal.{Guarded, answered}
use Rattle.refusal.specs.Guarded.{guarded}
use Rattle.runtime.specs.Reads.{text_place}
use Rattle.runtime.specs.FieldName.{field_name}
use Rattle.runtime.specs.PlaceNumbers.{text_numbers, field_numbers}
use Rattle.vtable.specs.Entries.{Entry}
use Rattle.field.specs.declared.record.FieldRecordIter.{FieldRecordIter}
use Rattle.field.specs.Records.{record_layout, entries_of}
use Rattle.entry_tables.specs.Tables.{entry_numbers, WholeTable, table_by}

-- the addresses of a record's names: its words are the flags and these two
abbrev pub type_name_address : Entry → ℕ
type_name_address e = get_or e.words 1 0

abbrev pub field_name_address : Entry → ℕ
field_name_address e = get_or e.words 2 0

-- a record's numbers: its own four, then where the type's name lies, and the field's
abbrev pub named_numbers : List ℕ → List ℕ → List ℕ → ℕ → Entry → List ℕ
named_numbers image segments strings start e =
    entry_numbers e
    ++ (text_numbers (text_place image segments (type_name_address e)) ++ field_numbers (field_name image segments strings start (field_name_address e)))

-- the records from a walk's position up to the first that cannot be read, at most a given number of them
abbrev pub named_table : List ℕ → List ℕ → List ℕ → ℕ → FieldRecordIter → ℕ → WholeTable
named_table image segments strings start c n =
    table_by (named_numbers image segments strings start) image segments (record_layout c.entry_size) n (entries_of c)

-- as many as a caller's list of `n` numbers holds
abbrev pub named_in : List ℕ → List ℕ → List ℕ → ℕ → FieldRecordIter → ℕ → WholeTable
named_in image segments strings start c n = named_table image segments strings start c (n / 10)

-- the same for the caller's list, unless the segments' numbers are refused
abbrev pub guarded_named : List ℕ → List ℕ → List ℕ → ℕ → FieldRecordIter → List ℕ → Guarded WholeTable
guarded_named image segments strings start c buffer = guarded segments (answered (named_in image segments strings start c (length buffer)))
