-- What a slot has besides its row and body, as programs of reads: its blocks, and its singleton records. docs/SPECIFICATION.md, "Items, paths and the cut".
use Rattle.std.specs.Prelude.{ℕ, ◌^◌, List, cond, leb, Option, Some, None}
use Rattle.runtime.specs.Reads.{Reads, bind}
use Rattle.classtrailers.specs.Blocks.{block}
use Rattle.classtrailers.specs.declared.block.Block.{Block}
use Rattle.classtrailers.specs.declared.block.BlockBody.{BlockBody}
use Rattle.classtrailers.specs.declared.block.BlockKind.{BlockKind}
use Rattle.typedescriptor.specs.Slots.{slot_row}
use Rattle.type_body.specs.Body.{Body, body, trailing, trailing_start}
use Rattle.type_body.specs.Singleton.{Initialization, needing, singleton_init, singleton_pointer}
pub use Rattle.type_body.specs.declared.trailers.Start.{Start}

-- a slot's block of a kind: the row, the body, the headers of earlier blocks, and its own
unfoldable pub slot_block : List ℕ → ℕ → ℕ → BlockKind → Reads Block
slot_block types start i k =
    bind (slot_row types start i)
    (λ r. bind (body r.address r.flags) (λ b. block (trailing r.flags b) (trailing_start r.address b) k))

-- where a block lies, if nothing else of it is recorded
abbrev pub place_of : BlockBody → Option ℕ
place_of (BlockBody.At a) = Some a
place_of (BlockBody.Table o n a) = None
place_of (BlockBody.Set s n) = None

-- the record that lies there
abbrev pub init_of_block : Block → Reads Initialization
init_of_block b = needing (place_of b.body) singleton_init

abbrev pub pointer_of_block : Block → Reads ℕ
pointer_of_block b = needing (place_of b.body) singleton_pointer

-- a slot's singleton records: the block's path, and their bytes
unfoldable pub slot_init : List ℕ → ℕ → ℕ → Reads Initialization
slot_init types start i = bind (slot_block types start i BlockKind.SingletonMetadataInit) init_of_block

unfoldable pub slot_pointer : List ℕ → ℕ → ℕ → Reads ℕ
slot_pointer types start i = bind (slot_block types start i BlockKind.SingletonMetadataPointer) pointer_of_block

-- ---- from a row and a body to its blocks

-- made-up rows and bodies may have them start at or above 2^64: then there are none
unfoldable pub start_below : Start → Option Start
start_below s = cond (leb (2 ^ 64) s.start) None (Some s)

abbrev pub trailers : ℕ → ℕ → Option Body → Option Start
trailers a flags None = None
trailers a flags (Some b) = start_below (record { trailing = trailing flags b; start = trailing_start a b })
