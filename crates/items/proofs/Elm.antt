-- A third image worked through: the items of a struct. It has singleton records, an offset list, fields, and a context without a name in a
-- module. Each item's path and what it says are here as numbers, worked out by hand from docs/SPECIFICATION.md (offset + 0x1000 is the
-- address), and are computed from the definitions.
use Rattle.std.specs.Prelude.{ℕ, refl, List, [], ◌∷◌, ◌++◌, Option, Some, None}
use Rattle.utf8.specs.Table.{table}
use Rattle.utf8.specs.Text.{following, goes_on, until_nul, text_length}
use Rattle.util.specs.Letters.{letters}
use Rattle.util.specs.LittleEndian.{little_endian, bytes_at, little_at, twos_complement, signed_at, unsigned_in, signed_in}
use Rattle.util.specs.Pointer.{relative_pointer, relative_address}
use Rattle.segment.specs.Segments.{segments_of, file_offset, decides, in_file}
use Rattle.util.specs.Cstr.{place, text_at}
use Rattle.runtime.specs.Reads.{within, bytes_place, text_offset, run, extent, Range, path, bind}
use Rattle.context.specs.Context.{kind_of}
use Rattle.context.specs.Field.{field_kind}
use Rattle.context.specs.declared.field.FieldDescriptorKind.{FieldDescriptorKind}
use Rattle.classtrailers.specs.Blocks.{row_at, below, block_at, record_at, end_at, passed, reached, block_in, block}
use Rattle.classtrailers.specs.declared.block.Block.{Block}
use Rattle.classtrailers.specs.declared.block.BlockBody.{BlockBody}
use Rattle.classtrailers.specs.declared.block.BlockKind.{BlockKind}
use Rattle.typedescriptor.specs.Row.{row_name, descriptor}
use Rattle.typedescriptor.specs.Slots.{slot_row}
use Rattle.type_body.specs.Body.{of_struct, struct_body, body_bytes, body, slot_body}
use Rattle.type_body.specs.Singleton.{slot_target, targets, singleton_init, singleton_pointer}
use Rattle.type_body.specs.Items.{slot_block, slot_init, slot_pointer}
use Rattle.field_offsets.specs.Offsets.{vector, u32s, field_offsets, slot_offsets}
use Rattle.vtable.specs.Entries.{entry_at, up_to, entry}
use Rattle.field.specs.Fields.{field_step, descriptor_from, descriptor_at}
use Rattle.field.specs.Records.{descriptor_record}
use Rattle.parent.specs.Context.{header_in, header}
use Rattle.parent.specs.Chain.{header_at}
use Rattle.items.specs.Keys.{Sections, Key, Answer}
use Rattle.items.specs.Items.{map_reads, context_of_slot, item}
use Rattle.items.proofs.Worked.{Table, small_u32, laid, one_slot, bytes_to, row_reads, read_by, told_by, cut_to}

-- the fields section is a part of the image: 48 bytes from 72 on
abbrev field_bytes : List ℕ
field_bytes =
    -- 72: no type's name, no superclass's; 80: kind 0, records of 16 bytes; 84: two of them
    small_u32 0 ++ small_u32 0 ++ 0 ∷ 0 ∷ 16 ∷ 0 ∷ small_u32 2
    -- 88: record 0: flags, the type name's offset to 160 at 92, the name's to 153 at 96; four bytes that no record has
    ++ small_u32 0 ++ small_u32 68 ++ small_u32 57 ++ small_u32 0
    -- 104: record 1: a `var`, the type name's offset to 160 at 108, the name's to 157 at 112
    ++ small_u32 2 ++ small_u32 52 ++ small_u32 45 ++ small_u32 0

-- 163 bytes, each line from the offset that it names
abbrev pub elm_image : List ℕ
elm_image =
    -- 0: `Elm` and a NUL
    letters "Elm" ++ 0 ∷
    -- 4: the descriptor: a struct with a singleton initialization (type flags 1) and a singleton pointer (8); the parent's offset to 120 at 8, the name's -12 at 12
    17 ∷ 0 ∷ 9 ∷ 0 ∷ small_u32 112 ++ 0xf4 ∷ 0xff ∷ 0xff ∷ 0xff ∷ small_u32 0 ++ small_u32 52
    -- 24: the body: two fields, whose offsets start at small_u32 2 of the metadata
    ++ small_u32 2 ++ small_u32 2
    -- 32: the singleton initialization: no cache, metadata at 36 + 12, a function at 40 + 216
    ++ small_u32 0 ++ small_u32 12 ++ small_u32 216
    -- 44: the singleton pointer, to 44 + 4
    ++ small_u32 4
    -- 48: the metadata: two words of 8 bytes, and 64 its vector: 0 and 8
    ++ 0 ∷ 2 ∷ 0 ∷ 0 ∷ small_u32 0 ++ 4 ∷ 0x10 ∷ 0 ∷ 0 ∷ small_u32 0 ++ small_u32 0 ++ small_u32 8
    -- 72: the fields section
    ++ field_bytes
    -- 120: an anonymous context, the parent's offset to 132 at 124; the word after its 8 bytes, which is not the offset of a name, leads to
    -- 149
    ++ small_u32 2 ++ small_u32 8 ++ small_u32 21
    -- 132: a module; no parent; the name's offset to 144 at 140
    ++ small_u32 0 ++ small_u32 0 ++ small_u32 4
    -- 144: `Park`; 149: `ivy`, which no name leads to; 153: `age`; 157: `id`; 160: `Si`, the name of a type; each with a NUL
    ++ letters "Park" ++ 0 ∷ letters "ivy" ++ 0 ∷ letters "age" ++ 0 ∷ letters "id" ++ 0 ∷ letters "Si" ++ 0 ∷ []

abbrev pub elm_segments : List ℕ
elm_segments = laid 163

-- one slot, which refers to 0x1004; fields at 0x1048
abbrev pub elm_sections : Sections
elm_sections = record { types = (one_slot 4).types; types_start = 0x2000; fields = field_bytes; fields_start = 0x1048 }

abbrev told : Key → Option Answer
told = told_by elm_image elm_segments elm_sections

-- the row's, and the body's 8 bytes
abbrev body_reads : List Range
body_reads = row_reads ++ (bytes_to 24 32 ∷ [])

-- the two blocks at an address
abbrev initialization_at : ℕ → Block
initialization_at a = record { kind = BlockKind.SingletonMetadataInit; body = BlockBody.At a }

abbrev pointer_at : ℕ → Block
pointer_at a = record { kind = BlockKind.SingletonMetadataPointer; body = BlockBody.At a }

pub record ElmWorked : Type 0 where
  pub reads : Table (read_by elm_image elm_segments elm_sections)
      ((Key.row 0, row_reads)
      ∷ (Key.body 0, body_reads)
      -- two blocks without a header: there is nothing to read, neither of their own nor of the one before
      ∷ (Key.block 0 BlockKind.SingletonMetadataInit, body_reads)
      ∷ (Key.block 0 BlockKind.SingletonMetadataPointer, body_reads)
      -- their records: 12 bytes, and 4
      ∷ (Key.initialization 0, body_reads ++ (bytes_to 32 44 ∷ []))
      ∷ (Key.pointer 0, body_reads ++ (bytes_to 44 48 ∷ []))
      -- the vector of metadata at 0x1030: two numbers of four bytes, two words of 8 behind it
      ∷ (Key.offsets 0 0x1030, body_reads ++ (bytes_to 64 72 ∷ []))
      ∷ (Key.context 0 1, row_reads ++ (bytes_to 120 128 ∷ bytes_to 132 140 ∷ []))
      -- a descriptor reads nothing of the image; a record the 12 bytes of each one up to it, 16 from one to the next
      ∷ (Key.field_descriptor 0, [])
      ∷ (Key.field_record 0 1, bytes_to 88 100 ∷ bytes_to 104 116 ∷ [])
      ∷ [])
  -- what they say; nothing past the last
  pub says : Table told
      ((Key.row 0, Some (Answer.row (record { address = 0x1004; flags = 0x90011; parent = 0x1078; name = place 0 3; name_bytes = letters "Elm" })))
      ∷ (Key.body 0, Some (Answer.body (of_struct 2 2)))
      ∷ (Key.block 0 BlockKind.SingletonMetadataInit, Some (Answer.block (initialization_at 0x1020)))
      ∷ (Key.block 0 BlockKind.SingletonMetadataPointer, Some (Answer.block (pointer_at 0x102c)))
      ∷ (Key.initialization 0, Some (Answer.initialization (record { cache = 0; incomplete = 0x1030; completion = 0x1100 })))
      ∷ (Key.pointer 0, Some (Answer.pointer 0x1030))
      ∷ (Key.offsets 0 0x1030, Some (Answer.offsets (0 ∷ 8 ∷ [])))
      ∷ (Key.context 0 0, Some (Answer.context (record { address = 0x1078; flags = 2; parent = 0x1084 })))
      ∷ (Key.context 0 1, Some (Answer.context (record { address = 0x1084; flags = 0; parent = 0 })))
      ∷ (Key.context 0 2, None)
      ∷ (Key.field_descriptor 0, Some (Answer.field_descriptor (record { address = 0x1048; mangled_type_name_va = 0; superclass_va = 0; kind = FieldDescriptorKind.Struct; field_record_size = 16; num_fields = 2 })))
      ∷ (Key.field_descriptor 1, None)
      ∷ (Key.field_record 0 1, Some (Answer.field_record (record { address = 0x1068; words = 2 ∷ 0x10a0 ∷ 0x109d ∷ [] })))
      ∷ (Key.field_record 0 2, None)
      ∷ [])
  -- each ends where its last range does: a cut there keeps it, and one a byte before does not
  pub cuts : Table (cut_to elm_image elm_segments elm_sections)
      (((44, Key.initialization 0), told (Key.initialization 0))
      ∷ ((43, Key.initialization 0), None)
      ∷ ((48, Key.pointer 0), told (Key.pointer 0))
      ∷ ((47, Key.pointer 0), None)
      ∷ ((72, Key.offsets 0 0x1030), told (Key.offsets 0 0x1030))
      ∷ ((71, Key.offsets 0 0x1030), None)
      ∷ ((116, Key.field_record 0 1), told (Key.field_record 0 1))
      ∷ ((115, Key.field_record 0 1), None)
      ∷ [])

pub elm_worked : ElmWorked
unfolding run path bind bytes_place within text_offset extent segments_of file_offset decides in_file table following goes_on text_at text_length until_nul unsigned_in signed_in little_at signed_at bytes_at little_endian twos_complement relative_address relative_pointer descriptor row_name slot_row map_reads item struct_body body_bytes body slot_body row_at below block_at record_at end_at passed reached block_in block slot_block slot_target targets singleton_init singleton_pointer slot_init slot_pointer vector u32s field_offsets slot_offsets entry_at up_to entry field_step descriptor_from descriptor_at descriptor_record header_in header header_at context_of_slot kind_of field_kind
elm_worked = record { reads = refl; says = refl; cuts = refl }
