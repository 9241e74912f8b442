-- A second image worked through, with the items of a row: a class of two methods and one override, in a context without a name, in a
-- module. The paths are those of docs/SPECIFICATION.md, "Items, paths and the cut", written out as numbers.
use Rattle.std.specs.Prelude.{ℕ, ◌≤◌, ◌≡◌, refl, List, [], ◌∷◌, ◌++◌, Option, Some, None}
use Rattle.std.proofs.Common.{arith, inr}
use Rattle.utf8.specs.Table.{table}
use Rattle.utf8.specs.Text.{following, goes_on, until_nul, text_length}
use Rattle.util.specs.Letters.{letters}
use Rattle.util.specs.LittleEndian.{little_endian, bytes_at, little_at, twos_complement, signed_at, unsigned_in, signed_in}
use Rattle.util.specs.Pointer.{relative_pointer, relative_address}
use Rattle.segment.specs.Segments.{segments_of, file_offset, decides, in_file}
use Rattle.util.specs.Cstr.{text_at}
use Rattle.runtime.specs.Reads.{within, bytes_place, text_offset, run, extent, Range, path, bind, All, Clear}
use Rattle.context.specs.Context.{kind_of}
use Rattle.classtrailers.specs.Blocks.{table_block, row_at, below, block_at, record_at, end_at, passed, reached, block_in, block}
use Rattle.classtrailers.specs.declared.block.BlockKind.{BlockKind}
use Rattle.typedescriptor.specs.Row.{row_name, descriptor}
use Rattle.typedescriptor.specs.Slots.{slot_row}
use Rattle.type_body.specs.Body.{class_body, body_bytes, body, slot_body}
use Rattle.type_body.specs.Items.{slot_block}
use Rattle.vtable.specs.Entries.{entry_at, up_to, entry}
use Rattle.parent.specs.Context.{header_in, header}
use Rattle.parent.specs.Chain.{header_at}
use Rattle.items.specs.Keys.{Sections, EntryKind, Key, Answer}
use Rattle.items.specs.Items.{map_reads, entry_of_slot, context_of_slot, item}
use Rattle.items.specs.Claim.{Claim}
use Rattle.items.proofs.Worked.{Table, small_u32, laid, one_slot, bytes_to, row_reads, read_by, told_by, cut_to}

-- 113 bytes, each line from the offset that it names
abbrev pub oak_image : List ℕ
oak_image =
    -- 0: `Oak` and a NUL
    letters "Oak" ++ 0 ∷
    -- 4: the descriptor: a class with a vtable and an override table; the parent's offset 80 at 8, the name's -12 at 12
    16 ∷ 0 ∷ 0 ∷ 0xc0 ∷ (small_u32 80 ++ (0xf4 ∷ 0xff ∷ 0xff ∷ 0xff ∷ (small_u32 0 ++ (small_u32 0
    -- 24: the body
    ++ (small_u32 0 ++ (small_u32 0 ++ (small_u32 0 ++ (small_u32 0 ++ (small_u32 0 ++ (small_u32 0
    -- 48: the vtable's header: two methods, 56 and 64
    ++ (small_u32 0 ++ (small_u32 2 ++ (small_u32 16 ++ (small_u32 0 ++ (small_u32 17 ++ (small_u32 0
    -- 72: the override table's header, and 76 its one entry
    ++ (small_u32 1 ++ (small_u32 0 ++ (small_u32 0 ++ (small_u32 0
    -- 88: an anonymous context; the parent's offset 4 at 92
    ++ (small_u32 2 ++ (small_u32 4
    -- 96: a module; no parent; the name's offset 4 at 104
    ++ (small_u32 0 ++ (small_u32 0 ++ (small_u32 4
    -- 108: `Wood` and a NUL
    ++ (letters "Wood" ++ 0 ∷ []))))))))))))))))))))))))))

abbrev pub oak_segments : List ℕ
oak_segments = laid 113

abbrev pub oak_sections : Sections
oak_sections = one_slot 4

abbrev told : Key → Option Answer
told = told_by oak_image oak_segments oak_sections

-- the row's, and the body's 24 bytes
abbrev body_reads : List Range
body_reads = row_reads ++ (bytes_to 24 48 ∷ [])

pub record OakWorked : Type 0 where
  pub reads : Table (read_by oak_image oak_segments oak_sections)
      ((Key.row 0, row_reads)
      ∷ (Key.body 0, body_reads)
      -- the vtable's own header; for the override table, the vtable's header and then its own
      ∷ (Key.block 0 BlockKind.VTable, body_reads ++ (bytes_to 48 56 ∷ []))
      ∷ (Key.block 0 BlockKind.OverrideTable, body_reads ++ (bytes_to 48 56 ∷ bytes_to 72 76 ∷ []))
      -- method 1: its block's, and the bytes of methods 0 and 1
      ∷ (Key.entry 0 EntryKind.methods 1, body_reads ++ (bytes_to 48 56 ∷ bytes_to 56 64 ∷ bytes_to 64 72 ∷ []))
      ∷ (Key.entry 0 EntryKind.overrides 0, body_reads ++ (bytes_to 48 56 ∷ bytes_to 72 76 ∷ bytes_to 76 88 ∷ []))
      -- context 1: the row's, and the 8 bytes of contexts 0 and 1
      ∷ (Key.context 0 1, row_reads ++ (bytes_to 88 96 ∷ bytes_to 96 104 ∷ []))
      ∷ [])
  -- what they say
  pub says : Table told
      ((Key.block 0 BlockKind.VTable, Some (Answer.block (table_block BlockKind.VTable 0 2 0x1038)))
      ∷ (Key.block 0 BlockKind.OverrideTable, Some (Answer.block (table_block BlockKind.OverrideTable 0 1 0x104c)))
      ∷ (Key.entry 0 EntryKind.methods 1, Some (Answer.entry (record { address = 0x1040; words = 17 ∷ 0 ∷ [] })))
      ∷ (Key.context 0 1, Some (Answer.context (record { address = 0x1060; flags = 0; parent = 0 })))
      ∷ [])
  -- the name is the only text, and comes first
  pub clear : (c : ℕ) → 4 ≤ c → All (Clear c) (read_by oak_image oak_segments oak_sections (Key.row 0))
  -- method 1 ends at 72: a cut there keeps it, and one a byte before does not; the claim says so of both; the override table's header lies
  -- after it
  pub cuts : Table (cut_to oak_image oak_segments oak_sections)
      (((72, Key.entry 0 EntryKind.methods 1), told (Key.entry 0 EntryKind.methods 1))
      ∷ ((71, Key.entry 0 EntryKind.methods 1), None)
      ∷ ((75, Key.block 0 BlockKind.OverrideTable), None)
      ∷ [])
  pub claim_72 : Claim oak_image oak_segments oak_sections 72 (Key.entry 0 EntryKind.methods 1)
  pub claim_71 : Claim oak_image oak_segments oak_sections 71 (Key.entry 0 EntryKind.methods 1)

pub oak_worked : OakWorked
unfolding run path bind bytes_place within text_offset extent segments_of file_offset decides in_file table following goes_on text_at text_length until_nul unsigned_in signed_in little_at signed_at bytes_at little_endian twos_complement relative_address relative_pointer descriptor row_name slot_row map_reads item class_body body_bytes body slot_body row_at below block_at record_at end_at passed reached block_in block slot_block entry_at up_to entry entry_of_slot header_in header header_at context_of_slot kind_of
oak_worked =
    record {
      reads = refl;
      says = refl;
      clear = λ c h. ((λ t. absurd (let z : ◌≡◌ {A = ℕ} 0 1 = cc in omega arith)), ((λ t. inr (omega arith)), tt));
      cuts = refl;
      claim_72 = refl;
      claim_71 = refl;
    }
