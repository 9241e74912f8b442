-- The trailing blocks, in one table: docs/SPECIFICATION.md, "Trailing blocks"; Metadata.h, the trailing objects of `TargetClassDescriptor`,
-- `TargetStructDescriptor` and `TargetEnumDescriptor`, in their order.
use Rattle.std.specs.Prelude.{ℕ, zero, suc, ◌+◌, ◌-◌, ◌*◌, ◌/◌, ◌^◌, ◌%◌, List, [], ◌∷◌, map, Bool, true, false, cond, ◌&&◌, get_or, leb, eqb, Option, Some, None, option_map, slice_get}
use Rattle.util.specs.LittleEndian.{unsigned_in}
use Rattle.context.specs.Bits.{bit, low}
use Rattle.context.specs.Context.{is_generic, has_invertible_protocols, kind_specific_flags}
use Rattle.context.specs.TypeContext.{has_canonical_metadata_prespecializations, has_singleton_metadata_pointer, class_has_resilient_superclass, class_has_vTable, class_has_override_table, class_has_default_override_table}
use Rattle.runtime.specs.Reads.{Reads, done, nothing, bytes, bind, run}
use Rattle.classtrailers.specs.declared.block.Block.{Block}
use Rattle.classtrailers.specs.declared.block.BlockBody.{BlockBody}
use Rattle.classtrailers.specs.declared.block.BlockKind.{BlockKind}
pub use Rattle.classtrailers.specs.declared.block.Ended.{Ended}
pub use Rattle.classtrailers.specs.declared.iter.BlockIter.{BlockIter}
pub use Rattle.classtrailers.specs.declared.iter.BlockStep.{BlockStep}
pub use Rattle.classtrailers.specs.declared.trailing.Trailing.{Trailing}

abbrev pub type_flags : Trailing → ℕ
type_flags t = kind_specific_flags t.flags

-- what is recorded of a block, by its kind: where it lies; a table's offset (0 if it has none), its number of entries and where they lie;
-- the invertible set and the number of its protocols
abbrev pub placed_block : BlockKind → ℕ → Block
placed_block k a = record { kind = k; body = BlockBody.At a }

abbrev pub table_block : BlockKind → ℕ → ℕ → ℕ → Block
table_block k o n a = record { kind = k; body = BlockBody.Table o n a }

abbrev pub set_block : ℕ → ℕ → Block
set_block s n = record { kind = BlockKind.InvertibleProtocolSet; body = BlockBody.Set s n }

-- a row of the table: when the block is present, how many header bytes are read, how long they make the block, whether it is recorded
-- only if its end lies below 2^64, and what is recorded for its address and header
pub record BlockRow : Type 0 where
  pub kind : BlockKind
  pub there : Trailing → Bool
  pub header : ℕ
  pub size : List ℕ → ℕ
  pub bounded : Bool
  pub recorded : ℕ → List ℕ → BlockBody

-- a block without a header
abbrev pub plain : BlockKind → (Trailing → Bool) → ℕ → BlockRow
plain k t n = record { kind = k; there = t; header = 0; size = λ _. n; bounded = false; recorded = λ a h. BlockBody.At a }

-- one with a header
abbrev pub headed : BlockKind → (Trailing → Bool) → ℕ → (List ℕ → ℕ) → (ℕ → List ℕ → BlockBody) → BlockRow
headed k t n s r = record { kind = k; there = t; header = n; size = s; bounded = true; recorded = r }

-- the numbers in a header
abbrev pub u32_in : List ℕ → ℕ → ℕ
u32_in h o = unsigned_in 4 h o

-- one whose header is the number of its entries
abbrev pub listed : BlockKind → (Trailing → Bool) → ℕ → BlockRow
listed k t n = headed k t 4 (λ h. 4 + n * u32_in h 0) (λ a h. BlockBody.Table 0 (u32_in h 0) (a + 4))

-- `TargetTypeGenericContextDescriptorHeader`: 16 bytes, a byte for each parameter, padded to four, and 12 for each requirement
unfoldable pub generic_size : ℕ → ℕ → ℕ
generic_size parameters requirements = 16 + 4 * ((parameters + 3) / 4) + 12 * requirements

-- how many of a number's lowest `n` bits are set
unfoldable pub set_bits : ℕ → ℕ → ℕ
set_bits zero w = 0
set_bits (suc n) w = w % 2 + set_bits n (w / 2)

-- a block that only a class has
abbrev pub of_class : (ℕ → Bool) → Trailing → Bool
of_class f t = t.is_class && f (type_flags t)

abbrev pub has_initialization : ℕ → Trailing → Bool
has_initialization n t = eqb (low 2 (type_flags t)) n

abbrev pub block_table : List BlockRow
block_table =
    headed BlockKind.Generic (λ t. is_generic t.flags) 16 (λ h. generic_size (unsigned_in 2 h 8) (unsigned_in 2 h 10)) (λ a h. BlockBody.At a) ∷
    plain BlockKind.ResilientSuperclass (of_class class_has_resilient_superclass) 4 ∷
    plain BlockKind.ForeignMetadataInit (has_initialization 2) 4 ∷
    plain BlockKind.SingletonMetadataInit (has_initialization 1) 12 ∷
    headed BlockKind.VTable (of_class class_has_vTable) 8 (λ h. 8 + 8 * u32_in h 4) (λ a h. BlockBody.Table (u32_in h 0) (u32_in h 4) (a + 8)) ∷
    listed BlockKind.OverrideTable (of_class class_has_override_table) 12 ∷
    plain BlockKind.ObjcResilientClassStub (λ t. of_class class_has_resilient_superclass t && bit 0 t.extra) 4 ∷
    listed BlockKind.Prespecializations (λ t. has_canonical_metadata_prespecializations (type_flags t)) 8 ∷
    record {
      kind = BlockKind.InvertibleProtocolSet;
      there = λ t. has_invertible_protocols t.flags;
      header = 2;
      size = λ _. 4;
      bounded = false;
      recorded = λ a h. BlockBody.Set (unsigned_in 2 h 0) (set_bits 16 (unsigned_in 2 h 0));
    } ∷
    plain BlockKind.SingletonMetadataPointer (λ t. has_singleton_metadata_pointer (type_flags t)) 4 ∷
    listed BlockKind.DefaultOverrideTable (of_class class_has_default_override_table) 8 ∷
    []

-- the row with a number; past the table's end, a row whose block is never present
unfoldable pub row_at : ℕ → BlockRow
row_at n = get_or block_table n (plain BlockKind.Generic (λ _. false) 0)

-- ---- a block at an address

-- the header's bytes; nothing is read where there is none
abbrev pub read_header : {A : Type 0} → ℕ → ℕ → (List ℕ → Reads A) → Reads A
read_header a zero k = k []
read_header a (suc n) k = bytes a (suc n) k

-- an end, unless it reaches 2^64
unfoldable pub below : ℕ → Option ℕ
below n = cond (leb (2 ^ 64) n) None (Some n)

-- a bounded block is recorded only if it has an end
abbrev pub ended : Bool → Block → Option ℕ → Reads Ended
ended true b None = nothing
ended true b (Some e) = done (record { block = b; end = Some e })
ended false b e = done (record { block = b; end = e })

unfoldable pub block_at : BlockRow → ℕ → Reads Ended
block_at r a = read_header a r.header (λ h. ended r.bounded (record { kind = r.kind; body = r.recorded a h }) (below (a + r.size h)))

-- what is recorded of it
unfoldable pub record_at : BlockRow → ℕ → Reads Block
record_at r a = bind (block_at r a) (λ x. done x.block)

-- where the next one starts; the walk stops if that is nowhere
abbrev pub somewhere : Option ℕ → Reads ℕ
somewhere None = nothing
somewhere (Some e) = done e

unfoldable pub end_at : BlockRow → ℕ → Reads ℕ
end_at r a = bind (block_at r a) (λ x. somewhere x.end)

-- ---- the block of a kind: the headers of those before it, and then its own

unfoldable pub passed : Trailing → BlockRow → ℕ → Reads ℕ
passed t r a = cond (r.there t) (end_at r a) (done a)

-- where row `n` lies, for a descriptor whose blocks start at an address: past those blocks of earlier rows that are present
unfoldable pub reached : Trailing → ℕ → ℕ → Reads ℕ
reached t start zero = done start
reached t start (suc n) = bind (reached t start n) (passed t (row_at n))

unfoldable pub block_in : Trailing → ℕ → ℕ → Reads Block
block_in t start n = bind (reached t start n) (λ a. cond ((row_at n).there t) (record_at (row_at n) a) nothing)

-- the number of a kind's row in the table
abbrev pub row_number : BlockKind → ℕ
row_number BlockKind.Generic = 0
row_number BlockKind.ResilientSuperclass = 1
row_number BlockKind.ForeignMetadataInit = 2
row_number BlockKind.SingletonMetadataInit = 3
row_number BlockKind.VTable = 4
row_number BlockKind.OverrideTable = 5
row_number BlockKind.ObjcResilientClassStub = 6
row_number BlockKind.Prespecializations = 7
row_number BlockKind.InvertibleProtocolSet = 8
row_number BlockKind.SingletonMetadataPointer = 9
row_number BlockKind.DefaultOverrideTable = 10

-- the kind with a number in the table's order, and that kind if a descriptor has a block of it
unfoldable pub kind_numbered : ℕ → Option BlockKind
kind_numbered n = slice_get (map (λ (r : BlockRow). r.kind) block_table) n

unfoldable pub kind_there : Trailing → ℕ → Option BlockKind
kind_there t n = cond ((row_at n).there t) (kind_numbered n) None

unfoldable pub block : Trailing → ℕ → BlockKind → Reads Block
block t start k = block_in t start (row_number k)

-- ---- the walk

-- the walk after row `i`: it has ended if the block's end overflowed
abbrev pub after : Trailing → ℕ → Option ℕ → BlockIter
after t i None = record { trailing = t; row = 11; address = 0 }
after t i (Some a) = record { trailing = t; row = i; address = a }

unfoldable pub step_at : List ℕ → List ℕ → Trailing → ℕ → ℕ → Option BlockStep
step_at image segments t i a =
    option_map (λ x. record { block = x.block; next = after t (i + 1) x.end }) (run image segments (block_at (row_at i) a))

-- the next block of `n` rows from row `i` on, at address `a`: rows whose block is not present are passed over, and the first failure ends
-- the walk
unfoldable pub step_in : List ℕ → List ℕ → Trailing → ℕ → ℕ → ℕ → Option BlockStep
step_in image segments t zero i a = None
step_in image segments t (suc n) i a =
    cond ((row_at i).there t) (step_at image segments t i a) (step_in image segments t n (i + 1) a)

unfoldable pub next_block : List ℕ → List ℕ → BlockIter → Option BlockStep
next_block image segments w = step_in image segments w.trailing (11 - w.row) w.row w.address

-- ---- all blocks of a descriptor

abbrev pub with_block : Option Block → List Block → List Block
with_block None bs = bs
with_block (Some b) bs = b ∷ bs

-- those of these kinds that are present and can be read
abbrev pub blocks_of : List ℕ → List ℕ → Trailing → ℕ → List BlockKind → List Block
blocks_of image segments t start [] = []
blocks_of image segments t start (k ∷ ks) = with_block (run image segments (block t start k)) (blocks_of image segments t start ks)

-- those of all kinds, in the table's order
unfoldable pub blocks : List ℕ → List ℕ → Trailing → ℕ → List Block
blocks image segments t start = blocks_of image segments t start (map (λ (r : BlockRow). r.kind) block_table)
