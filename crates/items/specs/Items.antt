-- The items of a listing: docs/SPECIFICATION.md, "Items, paths and the cut". An item is the program of reads for a key. It depends on the
-- sections, and never on the image: the listing of an image is what `run` gives for it, over all keys.
use Rattle.std.specs.Prelude.{ℕ, List, cond, ltb, Option, Some, None}
use Rattle.runtime.specs.Reads.{Reads, done, nothing, bind}
use Rattle.classtrailers.specs.declared.block.Block.{Block}
use Rattle.classtrailers.specs.declared.block.BlockBody.{BlockBody}
use Rattle.classtrailers.specs.declared.block.BlockKind.{BlockKind}
use Rattle.typedescriptor.specs.Row.{TypeRow}
use Rattle.typedescriptor.specs.Slots.{slot_row}
use Rattle.type_body.specs.Body.{Body, slot_body}
use Rattle.type_body.specs.Singleton.{Initialization, needing}
use Rattle.type_body.specs.Items.{slot_block, slot_init, slot_pointer}
use Rattle.field_offsets.specs.Offsets.{slot_offsets}
use Rattle.vtable.specs.Entries.{Layout, method, override, default_override, prespecialization, Entry, entry}
use Rattle.field.specs.Fields.{descriptor_at}
use Rattle.field.specs.Records.{descriptor_record}
use Rattle.parent.specs.Context.{Header}
use Rattle.parent.specs.Chain.{contexts_most, header_at}
use Rattle.items.specs.Keys.{Sections, EntryKind, Key, Answer}

-- a program's answer under another name
unfoldable pub map_reads : {A B : Type 0} → (A → B) → Reads A → Reads B
map_reads f p = bind p (λ a. done (f a))

-- ---- a slot's row (crate `typedescriptor`), body, blocks and singleton records (crate `type_body`), and offsets (crate `field_offsets`)

abbrev pub row_of_slot : Sections → ℕ → Reads TypeRow
row_of_slot s i = slot_row s.types s.types_start i

abbrev pub body_of_slot : Sections → ℕ → Reads Body
body_of_slot s i = slot_body s.types s.types_start i

abbrev pub block_of_slot : Sections → ℕ → BlockKind → Reads Block
block_of_slot s i k = slot_block s.types s.types_start i k

abbrev pub init_of_slot : Sections → ℕ → Reads Initialization
init_of_slot s i = slot_init s.types s.types_start i

abbrev pub pointer_of_slot : Sections → ℕ → Reads ℕ
pointer_of_slot s i = slot_pointer s.types s.types_start i

abbrev pub offsets_of_slot : Sections → ℕ → ℕ → Reads (List ℕ)
offsets_of_slot s i m = slot_offsets s.types s.types_start i m

-- ---- entries

-- the block that has them
abbrev pub table_kind : EntryKind → BlockKind
table_kind EntryKind.methods = BlockKind.VTable
table_kind EntryKind.overrides = BlockKind.OverrideTable
table_kind EntryKind.default_overrides = BlockKind.DefaultOverrideTable
table_kind EntryKind.prespecializations = BlockKind.Prespecializations

-- and what an entry is
abbrev pub entry_layout : EntryKind → Layout
entry_layout EntryKind.methods = method
entry_layout EntryKind.overrides = override
entry_layout EntryKind.default_overrides = default_override
entry_layout EntryKind.prespecializations = prespecialization

-- how many entries a block has, and where they start
pub record Table : Type 0 where
  pub count : ℕ
  pub base : ℕ

abbrev pub body_table : BlockBody → Option Table
body_table (BlockBody.Table o n a) = Some (record { count = n; base = a })
body_table (BlockBody.At a) = None
body_table (BlockBody.Set s n) = None

abbrev pub table_of : Block → Option Table
table_of b = body_table b.body

-- an entry of a slot's table: the block, and the entries up to it
unfoldable pub entry_of_slot : Sections → ℕ → EntryKind → ℕ → Reads Entry
entry_of_slot s i e k =
    bind (block_of_slot s i (table_kind e))
    (λ b. needing (table_of b) (λ t. entry (entry_layout e) t.base t.count k))

-- ---- contexts

-- a context around a slot's type: the row, and the contexts up to it; a walk gives at most 256
unfoldable pub context_of_slot : Sections → ℕ → ℕ → Reads Header
context_of_slot s i k =
    cond (ltb k contexts_most) (bind (row_of_slot s i) (λ r. header_at k r.parent)) nothing

-- ---- all items

unfoldable pub item : Sections → Key → Reads Answer
item s (Key.row i) = map_reads Answer.row (row_of_slot s i)
item s (Key.body i) = map_reads Answer.body (body_of_slot s i)
item s (Key.block i k) = map_reads Answer.block (block_of_slot s i k)
item s (Key.entry i e k) = map_reads Answer.entry (entry_of_slot s i e k)
item s (Key.initialization i) = map_reads Answer.initialization (init_of_slot s i)
item s (Key.pointer i) = map_reads Answer.pointer (pointer_of_slot s i)
item s (Key.offsets i m) = map_reads Answer.offsets (offsets_of_slot s i m)
item s (Key.context i k) = map_reads Answer.context (context_of_slot s i k)
item s (Key.field_descriptor j) = map_reads Answer.field_descriptor (descriptor_at s.fields s.fields_start j)
item s (Key.field_record j k) = map_reads Answer.field_record (descriptor_record s.fields s.fields_start j k)
