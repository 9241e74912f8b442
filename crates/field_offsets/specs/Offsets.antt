-- Field offsets: docs/SPECIFICATION.md, "Field offsets"; Metadata.h, `TargetStructMetadata` (`getFieldOffsets`: numbers of four bytes) and
-- `TargetStructDescriptor` (`FieldOffsetVectorOffset`, in words of the metadata).
use Rattle.std.specs.Prelude.{ℕ, zero, suc, ◌+◌, ◌*◌, ◌^◌, List, [], ◌∷◌, cond, ◌&&◌, length, take, drop, leb, ltb, Option, Some, None, option_map}
use Rattle.util.specs.LittleEndian.{little_endian, little_at}
use Rattle.runtime.specs.Reads.{Reads, done, bytes, bind, and_then, bytes_place, run}
use Rattle.classtrailers.specs.Blocks.{block}
use Rattle.classtrailers.specs.declared.block.BlockKind.{BlockKind}
use Rattle.type_body.specs.Body.{Body, of_class, of_struct, of_enum, body, slot_body, trailing, trailing_start}
use Rattle.type_body.specs.Singleton.{needing}
use Rattle.type_body.specs.Items.{pointer_of_block}
use Rattle.type_body.specs.declared.trailers.Start.{Start}
pub use Rattle.field_offsets.specs.declared.offsets.FieldOffsets.{FieldOffsets}

-- a list of numbers of four bytes at an address
pub record Vector : Type 0 where
  pub address : ℕ
  pub count : ℕ

-- the offset vector of metadata at `m`: for structs only, words of 8, none if a number is 0 or its address reaches 2^64
unfoldable pub vector : Body → ℕ → Option Vector
vector (of_class s z i f v) m = None
vector (of_struct f v) m =
    cond (ltb 0 f && ltb 0 v && ltb 0 m && ltb (m + 8 * v) (2 ^ 64)) (Some (record { address = m + 8 * v; count = f })) None
vector (of_enum p w e) m = None

-- the first `n` numbers of four bytes each
unfoldable pub u32s : ℕ → List ℕ → List ℕ
u32s zero h = []
u32s (suc n) h = little_endian (take 4 h) ∷ u32s n (drop 4 h)

-- the offsets of a body's fields
unfoldable pub field_offsets : Body → ℕ → Reads (List ℕ)
field_offsets b m = needing (vector b m) (λ v. bytes v.address (4 * v.count) (λ h. done (u32s v.count h)))

-- those of a slot's body: the body's path, and the vector's bytes
unfoldable pub slot_offsets : List ℕ → ℕ → ℕ → ℕ → Reads (List ℕ)
slot_offsets types start i m = bind (slot_body types start i) (λ b. field_offsets b m)

-- ---- one offset by its number

-- where a vector lies in the image, and how many numbers it has
abbrev pub offsets : ℕ → ℕ → FieldOffsets
offsets o n = record { place = o; count = n }

unfoldable pub offsets_place : List ℕ → List ℕ → Option Body → ℕ → Option FieldOffsets
offsets_place image segments o m =
    and_then (and_then o (λ b. vector b m))
    (λ v. option_map (λ p. offsets p v.count) (bytes_place image segments v.address (4 * v.count)))

-- number `k`; nothing unless the whole vector lies in the image
unfoldable pub offset_in : List ℕ → FieldOffsets → ℕ → Option ℕ
offset_in image v k =
    cond (ltb k v.count && leb (v.place + 4 * v.count) (length image)) (little_at 4 image (v.place + 4 * k)) None

-- ---- by the metadata that a descriptor's own singleton pointer refers to

-- the metadata's address
unfoldable pub metadata_at : Start → Reads ℕ
metadata_at s = bind (block s.trailing s.start BlockKind.SingletonMetadataPointer) pointer_of_block

abbrev pub blocks_start : ℕ → ℕ → Body → Start
blocks_start a flags b = record { trailing = trailing flags b; start = trailing_start a b }

-- where the field offsets lie for a descriptor with these flags at an address
unfoldable pub static_place : List ℕ → List ℕ → ℕ → ℕ → Option FieldOffsets
static_place image segments a flags =
    and_then (run image segments (body a flags))
    (λ b. and_then (run image segments (metadata_at (blocks_start a flags b))) (offsets_place image segments (Some b)))

-- ---- what the calls' answers say

abbrev pub metadata_after : List ℕ → List ℕ → Option Start → Option ℕ
metadata_after image segments None = None
metadata_after image segments (Some s) = run image segments (metadata_at s)
