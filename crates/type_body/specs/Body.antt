-- The body of a row: docs/SPECIFICATION.md, "Bodies"; Metadata.h, `TargetClassDescriptor`, `TargetStructDescriptor`, `TargetEnumDescriptor`:
-- what follows the 20 bytes that all descriptors have.
use Rattle.std.specs.Prelude.{ℕ, ◌+◌, ◌/◌, ◌%◌, ◌^◌, List, [], Bool, true, false, cond, leb, Option, Some, None, option_map}
use Rattle.util.specs.LittleEndian.{unsigned_in, signed_in}
use Rattle.util.specs.Pointer.{relative_address}
use Rattle.util.specs.declared.cstr.Place.{Place}
use Rattle.context.specs.Context.{context_kind, kind_specific_flags}
use Rattle.context.specs.TypeContext.{class_has_resilient_superclass}
use Rattle.context.specs.declared.descriptor.ContextDescriptorKind.{ContextDescriptorKind}
use Rattle.runtime.specs.Reads.{Reads, done, nothing, bytes, bind, text_place}
use Rattle.runtime.specs.Bytes.{bytes_read}
use Rattle.classtrailers.specs.declared.trailing.Trailing.{Trailing}
use Rattle.typedescriptor.specs.Slots.{slot_row}
use Rattle.type_body.specs.declared.body.ClassSizes.{ClassSizes}
use Rattle.type_body.specs.declared.body.ClassBody.{ClassBody}
use Rattle.type_body.specs.declared.body.StructBody.{StructBody}
use Rattle.type_body.specs.declared.body.EnumBody.{EnumBody}
use Rattle.type_body.specs.declared.body.TypeBody.{TypeBody}

-- the two words of a class whose meaning a resilient superclass changes
pub data Sizes : Type 0 where
  -- the metadata's negative and positive size, in words
  fixed : ℕ → ℕ → Sizes
  -- the address of the metadata's bounds, and the extra class flags
  resilient : ℕ → ℕ → Sizes

pub data Body : Type 0 where
  -- where the superclass's name is looked up (0: nowhere), the two words, immediate members, fields, the offset vector's word
  of_class : ℕ → Sizes → ℕ → ℕ → ℕ → Body
  -- fields, the offset vector's word
  of_struct : ℕ → ℕ → Body
  -- payload cases, the payload size's word, empty cases
  of_enum : ℕ → ℕ → ℕ → Body

-- with and without one; the first of them lies at `v`
abbrev pub sizes_at : Bool → ℕ → List ℕ → Sizes
sizes_at true v h = resilient (relative_address v (signed_in 4 h 4)) (unsigned_in 4 h 8)
sizes_at false v h = fixed (unsigned_in 4 h 4) (unsigned_in 4 h 8)

-- what the bytes after the first 20 say, of a descriptor at `a`
unfoldable pub class_body : ℕ → ℕ → List ℕ → Body
class_body a flags h =
    of_class (relative_address (a + 20) (signed_in 4 h 0)) (sizes_at (class_has_resilient_superclass (kind_specific_flags flags)) (a + 24) h)
    (unsigned_in 4 h 12) (unsigned_in 4 h 16) (unsigned_in 4 h 20)

unfoldable pub struct_body : List ℕ → Body
struct_body h = of_struct (unsigned_in 4 h 0) (unsigned_in 4 h 4)

unfoldable pub enum_body : List ℕ → Body
enum_body h = of_enum (unsigned_in 4 h 0 % 2 ^ 24) (unsigned_in 4 h 0 / 2 ^ 24) (unsigned_in 4 h 4)

-- how many bytes they are
abbrev pub body_size : Body → ℕ
body_size (of_class s z m f v) = 24
body_size (of_struct f v) = 8
body_size (of_enum p w e) = 8

-- a number of bytes, whose end lies below 2^64
unfoldable pub body_bytes : ℕ → ℕ → (List ℕ → Body) → Reads Body
body_bytes a n k = cond (leb (2 ^ 64) (a + 20 + n)) nothing (bytes (a + 20) n (λ h. done (k h)))

-- these bytes; none unless all of them are present
unfoldable pub body_part : List ℕ → List ℕ → ℕ → ℕ → List ℕ
body_part image segments a n = cond (leb (2 ^ 64) (a + 20 + n)) [] (bytes_read image segments (a + 20) n)

abbrev pub body_of_kind : ContextDescriptorKind → ℕ → ℕ → Reads Body
body_of_kind ContextDescriptorKind.Class a flags = body_bytes a 24 (class_body a flags)
body_of_kind ContextDescriptorKind.Struct a flags = body_bytes a 8 struct_body
body_of_kind ContextDescriptorKind.Enum a flags = body_bytes a 8 enum_body
body_of_kind ContextDescriptorKind.Module a flags = nothing
body_of_kind ContextDescriptorKind.Extension a flags = nothing
body_of_kind ContextDescriptorKind.Anonymous a flags = nothing
body_of_kind ContextDescriptorKind.Protocol a flags = nothing
body_of_kind ContextDescriptorKind.OpaqueType a flags = nothing
body_of_kind (ContextDescriptorKind.Other n) a flags = nothing

-- the body of a descriptor with these flags at an address
unfoldable pub body : ℕ → ℕ → Reads Body
body a flags = body_of_kind (context_kind flags) a flags

-- the body of a slot's row: the row's path, and the body's bytes
unfoldable pub slot_body : List ℕ → ℕ → ℕ → Reads Body
slot_body types start i = bind (slot_row types start i) (λ r. body r.address r.flags)

-- ---- what follows a body

abbrev pub extra_flags : Sizes → ℕ
extra_flags (fixed n p) = 0
extra_flags (resilient b e) = e

-- what decides which blocks follow
abbrev pub trailing : ℕ → Body → Trailing
trailing flags (of_class s z m f v) = record { flags = flags; is_class = true; extra = extra_flags z }
trailing flags (of_struct f v) = record { flags = flags; is_class = false; extra = 0 }
trailing flags (of_enum p w e) = record { flags = flags; is_class = false; extra = 0 }

-- and where they start
abbrev pub trailing_start : ℕ → Body → ℕ
trailing_start a (of_class s z m f v) = a + 44
trailing_start a (of_struct f v) = a + 28
trailing_start a (of_enum p w e) = a + 28

-- the text beside a class's body: its superclass's name, at its address
abbrev pub superclass_name : List ℕ → List ℕ → Option Body → Option Place
superclass_name image segments (Some (of_class s z m f v)) = text_place image segments s
superclass_name image segments (Some (of_struct f v)) = None
superclass_name image segments (Some (of_enum p w e)) = None
superclass_name image segments None = None

-- ---- what the calls' answers say

abbrev pub sizes_of : ClassSizes → Sizes
sizes_of (ClassSizes.Fixed n p) = fixed n p
sizes_of (ClassSizes.Resilient b e) = resilient b e

abbrev pub class_of : ClassBody → Body
class_of c =
    of_class c.superclass_va (sizes_of c.sizes) c.num_immediate_members c.num_fields c.field_offset_vector_offset

abbrev pub struct_of : StructBody → Body
struct_of s = of_struct s.num_fields s.field_offset_vector_offset

abbrev pub enum_of : EnumBody → Body
enum_of e = of_enum e.num_payload_cases e.payload_size_offset e.num_empty_cases

abbrev pub of_type : TypeBody → Body
of_type (TypeBody.Class c) = class_of c
of_type (TypeBody.Struct s) = struct_of s
of_type (TypeBody.Enum e) = enum_of e

abbrev pub body_of : Option TypeBody → Option Body
body_of b = option_map of_type b
