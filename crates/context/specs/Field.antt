-- Field descriptors (docs/SPECIFICATION.md, "Kinds and flags"): RemoteInspection/Records.h, `FieldDescriptorKind`.
use Rattle.std.specs.Prelude.{ℕ, List, [], ◌∷◌}
use Rattle.context.specs.Enumeration.{numbered, value_of}
use Rattle.context.specs.declared.field.FieldDescriptorKind.{FieldDescriptorKind}
use Rattle.context.specs.declared.field.FieldDescriptorKind.TheVariants.{Struct, Class, Enum, MultiPayloadEnum, Protocol, ClassProtocol, ObjCProtocol, ObjCClass, Other}

-- `FieldDescriptorKind`, a number of 16 bits
abbrev pub field_kinds : List (ℕ × FieldDescriptorKind)
field_kinds = numbered 0 (Struct ∷ Class ∷ Enum ∷ MultiPayloadEnum ∷ Protocol ∷ ClassProtocol ∷ ObjCProtocol ∷ ObjCClass ∷ [])

unfoldable pub field_kind : ℕ → FieldDescriptorKind
field_kind n = value_of field_kinds (Other n) n
