-- `classtrailers::trailing::has_block` meets its contract: each arm is a row of the table.
use native.Mathlib.Nat.{div-one}
use Rattle.std.proofs.Common.{ap, ◌∙◌}
use Rattle.context.specs.Bits.{low}
use Rattle.context.specs.TypeContext.{initialization_of}
use Rattle.classtrailers.proofs.CallsLaws.{kind_has, is_foreign, not_foreign, is_singleton, not_singleton}
use Rattle.classtrailers.specs.Blocks.{row_at}
use borrow.Author.Rules.{rules}
use Rattle.classtrailers.proofs.trailing.has_block.Goals as goal

pub has_canonical_metadata_prespecializations-requires : goal.has_canonical_metadata_prespecializations-requires
has_canonical_metadata_prespecializations-requires c = search rules

pub returns-in-Generic : goal.returns-in-Generic
unfolding row_at
returns-in-Generic c = kind_has _ _ c.in-Generic.is _ _ c.is_generic.ensures

pub returns-in-ResilientSuperclass : goal.returns-in-ResilientSuperclass
unfolding row_at
returns-in-ResilientSuperclass c = kind_has _ _ c.in-ResilientSuperclass.is _ _ (rw (c.class_has_resilient_superclass.ensures, c.type_flags-types.ensures))

pub returns-in-Foreign : goal.returns-in-Foreign
unfolding row_at
returns-in-Foreign c =
    kind_has _ _ c.in-ForeignMetadataInit.is _ _
    (is_foreign _ _ (c.metadata_initialization.ensures ∙ ap (λ w. initialization_of (low 2 w)) c.type_flags-types.ensures) c.in-Foreign.is)

pub returns-in_default : goal.returns-in_default
unfolding row_at
returns-in_default c =
    kind_has _ _ c.in-ForeignMetadataInit.is _ _
    (not_foreign _ _ (c.metadata_initialization.ensures ∙ ap (λ w. initialization_of (low 2 w)) c.type_flags-types.ensures) c.in_default.not-Foreign)

pub returns-in-Singleton : goal.returns-in-Singleton
unfolding row_at
returns-in-Singleton c =
    kind_has _ _ c.in-SingletonMetadataInit.is _ _
    (is_singleton _ _ (c.metadata_initialization-in-SingletonMetadataInit.ensures ∙ ap (λ w. initialization_of (low 2 w)) c.type_flags-types.ensures) c.in-Singleton.is)

pub returns-in_default-matches : goal.returns-in_default-matches
unfolding row_at
returns-in_default-matches c =
    kind_has _ _ c.in-SingletonMetadataInit.is _ _
    (not_singleton _ _ (c.metadata_initialization-in-SingletonMetadataInit.ensures ∙ ap (λ w. initialization_of (low 2 w)) c.type_flags-types.ensures) c.in_default-matches.not-Singleton)

pub returns-in-VTable : goal.returns-in-VTable
unfolding row_at
returns-in-VTable c = kind_has _ _ c.in-VTable.is _ _ (rw (c.class_has_vtable.ensures, c.type_flags-types.ensures))

pub returns-in-OverrideTable : goal.returns-in-OverrideTable
unfolding row_at
returns-in-OverrideTable c = kind_has _ _ c.in-OverrideTable.is _ _ (rw (c.class_has_override_table.ensures, c.type_flags-types.ensures))

pub returns-in-ObjcResilientClassStub : goal.returns-in-ObjcResilientClassStub
unfolding row_at
returns-in-ObjcResilientClassStub c = kind_has _ _ c.in-ObjcResilientClassStub.is _ _ (rw (c.class_has_resilient_superclass-in-ObjcResilientClassStub.ensures, c.type_flags-types.ensures, div-one))

pub returns-in-Prespecializations : goal.returns-in-Prespecializations
unfolding row_at
returns-in-Prespecializations c = kind_has _ _ c.in-Prespecializations.is _ _ (rw (c.has_canonical_metadata_prespecializations.ensures, c.type_flags-types.ensures))

pub returns-in-InvertibleProtocolSet : goal.returns-in-InvertibleProtocolSet
unfolding row_at
returns-in-InvertibleProtocolSet c = kind_has _ _ c.in-InvertibleProtocolSet.is _ _ c.has_invertible_protocols.ensures

pub returns-in-SingletonMetadataPointer : goal.returns-in-SingletonMetadataPointer
unfolding row_at
returns-in-SingletonMetadataPointer c = kind_has _ _ c.in-SingletonMetadataPointer.is _ _ (rw (c.has_singleton_metadata_pointer.ensures, c.type_flags-types.ensures))

pub returns-in-DefaultOverrideTable : goal.returns-in-DefaultOverrideTable
unfolding row_at
returns-in-DefaultOverrideTable c = kind_has _ _ c.in-DefaultOverrideTable.is _ _ (rw (c.class_has_default_override_table.ensures, c.type_flags-types.ensures))
