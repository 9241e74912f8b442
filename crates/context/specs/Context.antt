-- Context descriptors (docs/SPECIFICATION.md, "Kinds and flags"): MetadataValues.h, `ContextDescriptorKind` and `ContextDescriptorFlags`.
use Rattle.std.specs.Prelude.{ℕ, Bool, true, false, List, [], ◌∷◌, ◌++◌}
use Rattle.context.specs.Bits.{bit, bits, low}
use Rattle.context.specs.Enumeration.{numbered, value_of}
use Rattle.context.specs.declared.descriptor.ContextDescriptorKind.{ContextDescriptorKind}
use Rattle.context.specs.declared.descriptor.ContextDescriptorKind.TheVariants.{Module, Extension, Anonymous, Protocol, OpaqueType, Class, Struct, Enum, Other}

-- `ContextDescriptorKind`
abbrev pub context_kinds : List (ℕ × ContextDescriptorKind)
context_kinds = numbered 0 (Module ∷ Extension ∷ Anonymous ∷ Protocol ∷ OpaqueType ∷ []) ++ numbered 16 (Class ∷ Struct ∷ Enum ∷ [])

unfoldable pub kind_of : ℕ → ContextDescriptorKind
kind_of n = value_of context_kinds (Other n) n

-- `ContextDescriptorFlags`
abbrev pub context_kind : ℕ → ContextDescriptorKind
context_kind w = kind_of (low 5 w)

abbrev pub has_invertible_protocols : ℕ → Bool
has_invertible_protocols = bit 5

abbrev pub is_generic : ℕ → Bool
is_generic = bit 7

abbrev pub kind_specific_flags : ℕ → ℕ
kind_specific_flags = bits 16 16

-- the kinds with a `TargetTypeContextDescriptor`
abbrev pub is_type : ContextDescriptorKind → Bool
is_type Module = false
is_type Extension = false
is_type Anonymous = false
is_type Protocol = false
is_type OpaqueType = false
is_type Class = true
is_type Struct = true
is_type Enum = true
is_type (Other n) = false

-- the kinds whose third word is an offset to a name: darwinscope's parent.rs, `read_context_name`
abbrev pub has_name : ContextDescriptorKind → Bool
has_name Module = true
has_name Extension = true
has_name Anonymous = false
has_name Protocol = true
has_name OpaqueType = false
has_name Class = true
has_name Struct = true
has_name Enum = true
has_name (Other n) = false
