-- A fourth image worked through: the items of a generic class with prespecializations, an invertible set and default overrides, the blocks
-- that `Oak` and `Elm` do not have. The numbers are worked out by hand from docs/SPECIFICATION.md, as for `Elm`.
use Rattle.std.specs.Prelude.{ℕ, refl, List, [], ◌∷◌, ◌++◌, Option, Some, None}
use Rattle.utf8.specs.Table.{table}
use Rattle.utf8.specs.Text.{following, goes_on, until_nul, text_length}
use Rattle.util.specs.Letters.{letters}
use Rattle.util.specs.LittleEndian.{little_endian, bytes_at, little_at, twos_complement, signed_at, unsigned_in, signed_in}
use Rattle.util.specs.Pointer.{relative_pointer, relative_address}
use Rattle.segment.specs.Segments.{segments_of, file_offset, decides, in_file}
use Rattle.util.specs.Cstr.{text_at}
use Rattle.runtime.specs.Reads.{within, bytes_place, text_offset, run, extent, Range, path, bind}
use Rattle.context.specs.Context.{kind_of}
use Rattle.classtrailers.specs.Blocks.{generic_size, set_bits, row_at, below, block_at, record_at, end_at, passed, reached, block_in, block}
use Rattle.classtrailers.specs.declared.block.Block.{Block}
use Rattle.classtrailers.specs.declared.block.BlockBody.{BlockBody}
use Rattle.classtrailers.specs.declared.block.BlockKind.{BlockKind}
use Rattle.typedescriptor.specs.Row.{row_name, descriptor}
use Rattle.typedescriptor.specs.Slots.{slot_row}
use Rattle.type_body.specs.Body.{of_class, fixed, class_body, body_bytes, body, slot_body}
use Rattle.type_body.specs.Items.{slot_block, slot_init, slot_pointer}
use Rattle.field_offsets.specs.Offsets.{vector, field_offsets, slot_offsets}
use Rattle.vtable.specs.Entries.{entry_at, up_to, entry}
use Rattle.items.specs.Keys.{Sections, EntryKind, Key, Answer}
use Rattle.items.specs.Items.{map_reads, entry_of_slot, item}
use Rattle.items.proofs.Worked.{Table, small_u32, laid, one_slot, bytes_to, row_reads, read_by, told_by, cut_to}

-- 124 bytes, each line from the offset that it names
abbrev image : List ℕ
image =
    -- 0: `Ash` and a NUL
    letters "Ash" ++ 0 ∷
    -- 4: the descriptor: a class, generic (0x80), with an invertible set (0x20); type flags: prespecializations (8), default overrides (0x40); no parent; the name's offset -12 at 12
    0xb0 ∷ 0 ∷ 0x48 ∷ 0 ∷ small_u32 0 ++ 0xf4 ∷ 0xff ∷ 0xff ∷ 0xff ∷ small_u32 0 ++ small_u32 0
    -- 24: the body
    ++ small_u32 0 ++ small_u32 2 ++ small_u32 13 ++ small_u32 3 ++ small_u32 0 ++ small_u32 10
    -- 48: the generic header: one parameter at 56, one requirement at 58; 64 the parameter, padded to four bytes, and 68 the requirement's 12
    ++ small_u32 0 ++ small_u32 0 ++ 1 ∷ 0 ∷ 1 ∷ 0 ∷ 1 ∷ 0 ∷ 0 ∷ 0 ∷ small_u32 0x80 ++ small_u32 0 ++ small_u32 0 ++ small_u32 0
    -- 80: two prespecializations, 84 to 84 + 172 and 88 to 88 + 184; each counts eight bytes, so the block ends at 100
    ++ small_u32 2 ++ small_u32 172 ++ small_u32 184 ++ small_u32 0 ++ small_u32 0
    -- 100: the invertible set, bits 0 and 2; two bytes are read, and the next block starts four bytes on
    ++ 5 ∷ 0 ∷ 0xff ∷ 0xff ∷
    -- 104: two default overrides: 108, and 116 to 116 + 140 and 120 + 152
    small_u32 2 ++ small_u32 0 ++ small_u32 0 ++ small_u32 140 ++ small_u32 152

abbrev segments : List ℕ
segments = laid 124

abbrev sections : Sections
sections = one_slot 4

abbrev told : Key → Option Answer
told = told_by image segments sections

-- the row's, the body's 24 bytes, and the generic header's 16, which every other block here reads first; then those of the
-- prespecializations'
abbrev generic_reads : List Range
generic_reads = row_reads ++ (bytes_to 24 48 ∷ bytes_to 48 64 ∷ [])

abbrev prespecialized_reads : List Range
prespecialized_reads = generic_reads ++ (bytes_to 80 84 ∷ [])

-- for the default overrides: the set's 2 bytes before their own header
abbrev overrides_reads : List Range
overrides_reads = prespecialized_reads ++ (bytes_to 100 102 ∷ bytes_to 104 108 ∷ [])

-- the four blocks: at an address; a count of entries and where they start; a set, and how many of its bits are set
abbrev generic_at : ℕ → Block
generic_at a = record { kind = BlockKind.Generic; body = BlockBody.At a }

abbrev prespecializations_from : ℕ → ℕ → Block
prespecializations_from n a = record { kind = BlockKind.Prespecializations; body = BlockBody.Table 0 n a }

abbrev invertible_set : ℕ → ℕ → Block
invertible_set s n = record { kind = BlockKind.InvertibleProtocolSet; body = BlockBody.Set s n }

abbrev default_overrides_from : ℕ → ℕ → Block
default_overrides_from n a = record { kind = BlockKind.DefaultOverrideTable; body = BlockBody.Table 0 n a }

pub record AshWorked : Type 0 where
  -- the entries 0 and 1: four bytes each, and eight
  pub reads : Table (read_by image segments sections)
      ((Key.block 0 BlockKind.Generic, generic_reads)
      ∷ (Key.block 0 BlockKind.Prespecializations, prespecialized_reads)
      ∷ (Key.block 0 BlockKind.InvertibleProtocolSet, prespecialized_reads ++ (bytes_to 100 102 ∷ []))
      ∷ (Key.block 0 BlockKind.DefaultOverrideTable, overrides_reads)
      ∷ (Key.entry 0 EntryKind.prespecializations 1, prespecialized_reads ++ (bytes_to 84 88 ∷ bytes_to 88 92 ∷ []))
      ∷ (Key.entry 0 EntryKind.default_overrides 1, overrides_reads ++ (bytes_to 108 116 ∷ bytes_to 116 124 ∷ []))
      ∷ [])
  -- what they say
  pub says : Table told
      ((Key.body 0, Some (Answer.body (of_class 0 (fixed 2 13) 3 0 10)))
      ∷ (Key.block 0 BlockKind.Generic, Some (Answer.block (generic_at 0x1030)))
      ∷ (Key.block 0 BlockKind.Prespecializations, Some (Answer.block (prespecializations_from 2 0x1054)))
      ∷ (Key.block 0 BlockKind.InvertibleProtocolSet, Some (Answer.block (invertible_set 5 2)))
      ∷ (Key.block 0 BlockKind.DefaultOverrideTable, Some (Answer.block (default_overrides_from 2 0x106c)))
      ∷ (Key.entry 0 EntryKind.prespecializations 1, Some (Answer.entry (record { address = 0x1058; words = 0x1110 ∷ [] })))
      ∷ (Key.entry 0 EntryKind.default_overrides 1, Some (Answer.entry (record { address = 0x1074; words = 0x1100 ∷ 0x1110 ∷ [] })))
      -- what it does not have: a third entry, a vtable, singleton records (bit 3 of its type flags is the prespecializations'), offsets,
      -- which are a struct's
      ∷ (Key.entry 0 EntryKind.prespecializations 2, None)
      ∷ (Key.block 0 BlockKind.VTable, None)
      ∷ (Key.initialization 0, None)
      ∷ (Key.pointer 0, None)
      ∷ (Key.offsets 0 0x1000, None)
      ∷ [])
  -- a cut where an entry's last range ends keeps it, and one a byte before does not
  pub cuts : Table (cut_to image segments sections)
      (((92, Key.entry 0 EntryKind.prespecializations 1), told (Key.entry 0 EntryKind.prespecializations 1))
      ∷ ((91, Key.entry 0 EntryKind.prespecializations 1), None)
      ∷ ((123, Key.entry 0 EntryKind.default_overrides 1), None)
      ∷ [])

pub ash_worked : AshWorked
unfolding run path bind bytes_place within text_offset extent segments_of file_offset decides in_file table following goes_on text_at text_length until_nul unsigned_in signed_in little_at signed_at bytes_at little_endian twos_complement relative_address relative_pointer descriptor row_name slot_row map_reads item class_body body_bytes body slot_body generic_size set_bits row_at below block_at record_at end_at passed reached block_in block slot_block slot_init slot_pointer vector field_offsets slot_offsets entry_at up_to entry entry_of_slot kind_of
ash_worked = record { reads = refl; says = refl; cuts = refl }
