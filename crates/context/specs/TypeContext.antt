-- The flags of a class, a struct or an enum (docs/SPECIFICATION.md, "Kinds and flags"): MetadataValues.h, `TypeContextDescriptorFlags` and `TypeReferenceKind`.
use Rattle.std.specs.Prelude.{ℕ, Bool, not, ◌&&◌, List, [], ◌∷◌, eqb}
use Rattle.context.specs.Bits.{bit, low}
use Rattle.context.specs.Enumeration.{numbered, value_of}
use Rattle.context.specs.declared.types.MetadataInitializationKind.{MetadataInitializationKind}
use Rattle.context.specs.declared.types.MetadataInitializationKind.TheVariants.{None, Singleton, Foreign}
use Rattle.context.specs.declared.types.TypeReferenceKind.{TypeReferenceKind}
use Rattle.context.specs.declared.types.TypeReferenceKind.TheVariants.{DirectTypeDescriptor, IndirectTypeDescriptor, DirectObjCClassName, IndirectObjCClass}

-- `TypeContextDescriptorFlags::MetadataInitializationKind`
abbrev pub initializations : List (ℕ × MetadataInitializationKind)
initializations = numbered 0 (None ∷ Singleton ∷ Foreign ∷ [])

unfoldable pub initialization_of : ℕ → MetadataInitializationKind
initialization_of n = value_of initializations MetadataInitializationKind.Other n

-- `TypeReferenceKind`
abbrev pub references : List (ℕ × TypeReferenceKind)
references = numbered 0 (DirectTypeDescriptor ∷ IndirectTypeDescriptor ∷ DirectObjCClassName ∷ IndirectObjCClass ∷ [])

unfoldable pub reference_of : ℕ → TypeReferenceKind
reference_of n = value_of references (TypeReferenceKind.Other n) n

-- The two meanings of bit 3, as darwinscope separates them: by the initialization, where 1 is `Singleton`. The header separates them by
-- whether the type is generic.
abbrev pub has_singleton_metadata_pointer : ℕ → Bool
has_singleton_metadata_pointer w = bit 3 w && eqb (low 2 w) 1

abbrev pub has_canonical_metadata_prespecializations : ℕ → Bool
has_canonical_metadata_prespecializations w = bit 3 w && not (eqb (low 2 w) 1)

abbrev pub class_has_default_override_table : ℕ → Bool
class_has_default_override_table = bit 6

abbrev pub class_has_resilient_superclass : ℕ → Bool
class_has_resilient_superclass = bit 13

abbrev pub class_has_override_table : ℕ → Bool
class_has_override_table = bit 14

abbrev pub class_has_vTable : ℕ → Bool
class_has_vTable = bit 15
