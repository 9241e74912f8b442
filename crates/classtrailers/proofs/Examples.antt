-- All eleven kinds of blocks, worked on a class and on a struct that have all flags set: docs/SPECIFICATION.md, "Trailing blocks". The numbers are
-- counted by hand from its class order and sizes: generic header, 16 bytes, one for each parameter padded to four and 12 for each requirement; resilient superclass 4;
-- foreign 4 or singleton initialization 12; vtable 8 + 8n; override table 4 + 12n; Objective-C stub 4; prespecializations 4 + 8n; invertible set, 2 bytes read, 4 passed;
-- singleton pointer 4; default overrides 4 + 8n. A struct has the generic header, the initialization, prespecializations, the invertible set and the singleton pointer.
use Rattle.std.specs.Prelude.{ℕ, ◌≡◌, refl, List, [], ◌∷◌, ◌++◌, true, false, Some}
use Rattle.util.specs.LittleEndian.{little_endian, bytes_at, little_at, unsigned_in}
use Rattle.segment.specs.Segments.{segments_of, file_offset, decides, in_file}
use Rattle.runtime.specs.Reads.{within, bytes_place, bind, run}
use Rattle.context.specs.TypeContext.{initialization_of}
use Rattle.classtrailers.specs.Blocks.{Trailing, placed_block, table_block, set_block, generic_size, set_bits, row_at, below, block_at, record_at, end_at, passed, reached, block_in, block, blocks}
use Rattle.classtrailers.specs.declared.block.BlockKind.{BlockKind}

-- a u32 of one byte, and one of two u16 of one byte each
abbrev word : ℕ → List ℕ
word n = n ∷ 0 ∷ 0 ∷ 0 ∷ []

abbrev halves : ℕ → ℕ → List ℕ
halves m n = m ∷ 0 ∷ n ∷ 0 ∷ []

-- laid at 0x1000
abbrev segments : ℕ → List ℕ
segments n = 0x1000 ∷ n ∷ 0 ∷ n ∷ []

-- ---- a class of initialization 1: it has nine kinds

abbrev class : Trailing
class = record { flags = 0xe04900b0; is_class = true; extra = 1 }

-- each line from the address that it names
abbrev class_image : List ℕ
class_image =
    -- 0x1000: the generic header: 3 parameters, 1 requirement; 4 bytes of parameters and 12 of the requirement
    word 9 ++ (word 9 ++ (halves 3 1 ++ (word 9 ++ (word 9 ++ (word 9 ++ (word 9 ++ (word 9
    -- 0x1020: the resilient superclass
    ++ (word 9
    -- 0x1024: the singleton initialization
    ++ (word 9 ++ (word 9 ++ (word 9
    -- 0x1030: the vtable's header: offset 5, two methods
    ++ (word 5 ++ (word 2 ++ (word 9 ++ (word 9 ++ (word 9 ++ (word 9
    -- 0x1048: the override table's header: one override
    ++ (word 1 ++ (word 9 ++ (word 9 ++ (word 9
    -- 0x1058: the Objective-C stub
    ++ (word 9
    -- 0x105c: the invertible set 5, and what is passed
    ++ (halves 5 9
    -- 0x1060: the singleton pointer
    ++ (word 9
    -- 0x1064: the default overrides' header: one of them
    ++ (word 1 ++ (word 9 ++ (word 9 ++ [])))))))))))))))))))))))))))

-- ---- a struct of initialization 2: the other two kinds, and none of those that only a class has

abbrev struct : Trailing
struct = record { flags = 0xe04a00b1; is_class = false; extra = 1 }

abbrev struct_image : List ℕ
struct_image =
    -- 0x1000: the generic header: no parameter, no requirement
    word 9 ++ (word 9 ++ (halves 0 0 ++ (word 9
    -- 0x1010: the foreign initialization
    ++ (word 9
    -- 0x1014: the prespecializations' header: two, each of a metadata and an accessor
    ++ (word 2 ++ (word 9 ++ (word 9 ++ (word 9 ++ (word 9
    -- 0x1028: the invertible set 0xff, and what is passed
    ++ (halves 0xff 9 ++ []))))))))))

pub record AllKinds : Type 0 where
  pub of_class_lem : blocks class_image (segments 0x70) class 0x1000
      ≡ placed_block BlockKind.Generic 0x1000 ∷
      placed_block BlockKind.ResilientSuperclass 0x1020 ∷
      placed_block BlockKind.SingletonMetadataInit 0x1024 ∷
      table_block BlockKind.VTable 5 2 0x1038 ∷
      table_block BlockKind.OverrideTable 0 1 0x104c ∷
      placed_block BlockKind.ObjcResilientClassStub 0x1058 ∷
      set_block 5 2 ∷
      placed_block BlockKind.SingletonMetadataPointer 0x1060 ∷
      table_block BlockKind.DefaultOverrideTable 0 1 0x1068 ∷
      []
  -- where the last of them ends
  pub class_end : run class_image (segments 0x70) (reached class 0x1000 11) ≡ Some 0x1070
  pub of_struct_lem : blocks struct_image (segments 0x2c) struct 0x1000
      ≡ placed_block BlockKind.Generic 0x1000 ∷ placed_block BlockKind.ForeignMetadataInit 0x1010 ∷ table_block BlockKind.Prespecializations 0 2 0x1018 ∷ set_block 0xff 8 ∷ []
  pub struct_end : run struct_image (segments 0x2c) (reached struct 0x1000 11) ≡ Some 0x102c

pub all_kinds : AllKinds
unfolding little_endian bytes_at little_at unsigned_in segments_of file_offset decides in_file within bytes_place bind run initialization_of generic_size set_bits row_at below block_at record_at end_at passed reached block_in block blocks
all_kinds = record { of_class_lem = refl; class_end = refl; of_struct_lem = refl; struct_end = refl }
