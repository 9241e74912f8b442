-- docs/SPECIFICATION.md, "Calls for C". The accessors of the flag words as lists of numbers, the first of which is always 1. A kind is its
-- place in its enumeration, or 256 plus its number if no kind has it.
use Rattle.std.specs.Prelude.{ℕ, ◌+◌, Bool, true, false, List, [], ◌∷◌, ◌++◌, map}
use Rattle.context.specs.Bits.{bit, bits, low}
use Rattle.context.specs.Context.{context_kind, is_type, kind_specific_flags}
use Rattle.context.specs.TypeContext.{initialization_of, reference_of, has_canonical_metadata_prespecializations, has_singleton_metadata_pointer}
use Rattle.context.specs.Field.{field_kind}
use Rattle.context.specs.Method.{method_of}
use Rattle.context.specs.declared.descriptor.ContextDescriptorKind.{ContextDescriptorKind}
use Rattle.context.specs.declared.types.MetadataInitializationKind.{MetadataInitializationKind}
use Rattle.context.specs.declared.types.TypeReferenceKind.{TypeReferenceKind}
use Rattle.context.specs.declared.field.FieldDescriptorKind.{FieldDescriptorKind}
use Rattle.context.specs.declared.method.SwiftMethodKind.{SwiftMethodKind}

abbrev pub flag_number : Bool → ℕ
flag_number true = 1
flag_number false = 0

abbrev pub kind_number : ContextDescriptorKind → ℕ
kind_number ContextDescriptorKind.Module = 0
kind_number ContextDescriptorKind.Extension = 1
kind_number ContextDescriptorKind.Anonymous = 2
kind_number ContextDescriptorKind.Protocol = 3
kind_number ContextDescriptorKind.OpaqueType = 4
kind_number ContextDescriptorKind.Class = 5
kind_number ContextDescriptorKind.Struct = 6
kind_number ContextDescriptorKind.Enum = 7
kind_number (ContextDescriptorKind.Other n) = 256 + n

abbrev pub initialization_number : MetadataInitializationKind → ℕ
initialization_number MetadataInitializationKind.None = 0
initialization_number MetadataInitializationKind.Singleton = 1
initialization_number MetadataInitializationKind.Foreign = 2
initialization_number MetadataInitializationKind.Other = 3

abbrev pub reference_number : TypeReferenceKind → ℕ
reference_number TypeReferenceKind.DirectTypeDescriptor = 0
reference_number TypeReferenceKind.IndirectTypeDescriptor = 1
reference_number TypeReferenceKind.DirectObjCClassName = 2
reference_number TypeReferenceKind.IndirectObjCClass = 3
reference_number (TypeReferenceKind.Other n) = 256 + n

abbrev pub field_kind_number : FieldDescriptorKind → ℕ
field_kind_number FieldDescriptorKind.Struct = 0
field_kind_number FieldDescriptorKind.Class = 1
field_kind_number FieldDescriptorKind.Enum = 2
field_kind_number FieldDescriptorKind.MultiPayloadEnum = 3
field_kind_number FieldDescriptorKind.Protocol = 4
field_kind_number FieldDescriptorKind.ClassProtocol = 5
field_kind_number FieldDescriptorKind.ObjCProtocol = 6
field_kind_number FieldDescriptorKind.ObjCClass = 7
field_kind_number (FieldDescriptorKind.Other n) = 256 + n

abbrev pub method_number : SwiftMethodKind → ℕ
method_number SwiftMethodKind.Method = 0
method_number SwiftMethodKind.Init = 1
method_number SwiftMethodKind.Getter = 2
method_number SwiftMethodKind.Setter = 3
method_number SwiftMethodKind.ModifyCoroutine = 4
method_number SwiftMethodKind.ReadCoroutine = 5
method_number (SwiftMethodKind.Other n) = 256 + n

-- the flags at these bits
abbrev pub flags_at : ℕ → List ℕ → List ℕ
flags_at w = map (λ k. flag_number (bit k w))

-- invertible protocols, unique, generic at 5 to 7
unfoldable pub context_flag_numbers : ℕ → List ℕ
context_flag_numbers w =
    1 ∷ kind_number (context_kind w) ∷ flag_number (is_type (context_kind w)) ∷ flags_at w (5 ∷ 6 ∷ 7 ∷ []) ++ kind_specific_flags w ∷ kind_specific_flags w ∷ []

-- import info at 2; bit 3 and its two meanings; layout string at 4
unfoldable pub type_flag_numbers : ℕ → List ℕ
type_flag_numbers w =
    1 ∷ initialization_number (initialization_of (low 2 w)) ∷ flags_at w (2 ∷ 3 ∷ [])
    ++ flag_number (has_canonical_metadata_prespecializations w) ∷ flag_number (has_singleton_metadata_pointer w) ∷ flags_at w (4 ∷ [])

-- default overrides, actor, default actor at 6 to 8; the reference's kind in the three bits from 9 on; negative members, resilient
-- superclass, overrides, vtable at 12 to 15
unfoldable pub class_flag_numbers : ℕ → List ℕ
class_flag_numbers w = 1 ∷ flags_at w (6 ∷ 7 ∷ 8 ∷ []) ++ reference_number (reference_of (bits 9 3 w)) ∷ flags_at w (12 ∷ 13 ∷ 14 ∷ 15 ∷ [])

-- the reference's kind in the three bits from 3 on; retroactive, synthesized at 6 and 7; eight bits of conditional requirements; resilient
-- witnesses, generic witness table, of a protocol, global actor isolation at 16 to 19; eight bits of conditional pack descriptors
unfoldable pub conformance_flag_numbers : ℕ → List ℕ
conformance_flag_numbers w =
    1 ∷ reference_number (reference_of (bits 3 3 w)) ∷ flags_at w (6 ∷ 7 ∷ []) ++ bits 8 8 w ∷ flags_at w (16 ∷ 17 ∷ 18 ∷ 19 ∷ []) ++ bits 24 8 w ∷ []

unfoldable pub field_kind_numbers : ℕ → List ℕ
field_kind_numbers w = 1 ∷ field_kind_number (field_kind w) ∷ []

-- indirect case, var, artificial
unfoldable pub field_flag_numbers : ℕ → List ℕ
field_flag_numbers w = 1 ∷ flags_at w (0 ∷ 1 ∷ 2 ∷ [])

-- instance, dynamic, async, extended context at 4 to 7; 16 bits of extra discriminator
unfoldable pub method_flag_numbers : ℕ → List ℕ
method_flag_numbers w = 1 ∷ method_number (method_of (low 4 w)) ∷ flags_at w (4 ∷ 5 ∷ 6 ∷ 7 ∷ []) ++ bits 16 16 w ∷ []
