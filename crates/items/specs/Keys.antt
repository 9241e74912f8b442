-- What identifies the items of a listing, and what they say: docs/SPECIFICATION.md, "Items, paths and the cut".
use Rattle.std.specs.Prelude.{ℕ, List, Option, Some, None}
use Rattle.classtrailers.specs.declared.block.Block.{Block}
use Rattle.classtrailers.specs.declared.block.BlockKind.{BlockKind}
use Rattle.typedescriptor.specs.Row.{TypeRow}
use Rattle.type_body.specs.Body.{Body}
use Rattle.type_body.specs.Singleton.{Initialization}
use Rattle.vtable.specs.Entries.{Entry}
use Rattle.field.specs.declared.iter.FieldDescriptor.{FieldDescriptor}
use Rattle.parent.specs.Context.{Header}

-- the types and the fields section, and where they start
pub record Sections : Type 0 where
  pub types : List ℕ
  pub types_start : ℕ
  pub fields : List ℕ
  pub fields_start : ℕ

-- the four tables of entries
pub data EntryKind : Type 0 where
  methods : EntryKind
  overrides : EntryKind
  default_overrides : EntryKind
  prespecializations : EntryKind

-- what identifies an item
pub data Key : Type 0 where
  -- for a slot of the types section: its row, its body, its block of a kind
  row : ℕ → Key
  body : ℕ → Key
  block : ℕ → BlockKind → Key
  -- the entry with a number of a slot's table
  entry : ℕ → EntryKind → ℕ → Key
  -- a slot's singleton records
  initialization : ℕ → Key
  pointer : ℕ → Key
  -- the offsets of a slot's fields, for a metadata address
  offsets : ℕ → ℕ → Key
  -- the context with a number around a slot's type, the innermost being 0
  context : ℕ → ℕ → Key
  -- the descriptor with a number of the fields section, and its record with a number
  field_descriptor : ℕ → Key
  field_record : ℕ → ℕ → Key

-- what it says
pub data Answer : Type 0 where
  -- with its name's place and bytes
  row : TypeRow → Answer
  body : Body → Answer
  block : Block → Answer
  entry : Entry → Answer
  initialization : Initialization → Answer
  pointer : ℕ → Answer
  offsets : List ℕ → Answer
  context : Header → Answer
  field_descriptor : FieldDescriptor → Answer
  field_record : Entry → Answer

-- the slot that an item belongs to; items of the fields section belong to none
abbrev pub slot_of : Key → Option ℕ
slot_of (Key.row i) = Some i
slot_of (Key.body i) = Some i
slot_of (Key.block i k) = Some i
slot_of (Key.entry i e k) = Some i
slot_of (Key.initialization i) = Some i
slot_of (Key.pointer i) = Some i
slot_of (Key.offsets i m) = Some i
slot_of (Key.context i k) = Some i
slot_of (Key.field_descriptor j) = None
slot_of (Key.field_record j k) = None
