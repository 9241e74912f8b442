-- `classtrailers::decode::read_block` meets its contract: each arm is a row of the table.
use Rattle.std.specs.Prelude.{Some}
use Rattle.std.proofs.Common.{ap, ◌∙◌}
use Rattle.classtrailers.proofs.CallsLaws.{kind_says, kind_listed}
use Rattle.classtrailers.specs.Blocks.{row_at, block_at}
use Rattle.runtime.specs.Reads.{run}
use Rattle.classtrailers.proofs.decode.read_block.Goals as goal

pub returns-in-Generic : goal.returns-in-Generic
returns-in-Generic g c = kind_says _ _ c.in-Generic.is _ _ _ _ c.generic_at.ensures

pub returns-in-ResilientSuperclass : goal.returns-in-ResilientSuperclass
unfolding row_at block_at run
returns-in-ResilientSuperclass g c = ap Some c.plain_at.ensures ∙ kind_says _ _ c.in-ResilientSuperclass.is _ _ _ _ (rw c.in-ResilientSuperclass.is)

pub returns-in-ForeignMetadataInit : goal.returns-in-ForeignMetadataInit
unfolding row_at block_at run
returns-in-ForeignMetadataInit g c = ap Some c.plain_at-in-ForeignMetadataInit.ensures ∙ kind_says _ _ c.in-ForeignMetadataInit.is _ _ _ _ (rw c.in-ForeignMetadataInit.is)

pub returns-in-SingletonMetadataInit : goal.returns-in-SingletonMetadataInit
unfolding row_at block_at run
returns-in-SingletonMetadataInit g c = ap Some c.plain_at-in-SingletonMetadataInit.ensures ∙ kind_says _ _ c.in-SingletonMetadataInit.is _ _ _ _ (rw c.in-SingletonMetadataInit.is)

pub returns-in-VTable : goal.returns-in-VTable
returns-in-VTable g c = kind_says _ _ c.in-VTable.is _ _ _ _ c.vtable_at.ensures

pub returns-in-OverrideTable : goal.returns-in-OverrideTable
unfolding row_at block_at run
returns-in-OverrideTable g c = kind_says _ _ c.in-OverrideTable.is _ _ _ _ (kind_listed _ _ c.in-OverrideTable.is _ _ _ _ _ c.entries_at.ensures)

pub returns-in-ObjcResilientClassStub : goal.returns-in-ObjcResilientClassStub
unfolding row_at block_at run
returns-in-ObjcResilientClassStub g c = ap Some c.plain_at-in-ObjcResilientClassStub.ensures ∙ kind_says _ _ c.in-ObjcResilientClassStub.is _ _ _ _ (rw c.in-ObjcResilientClassStub.is)

pub returns-in-Prespecializations : goal.returns-in-Prespecializations
unfolding row_at block_at run
returns-in-Prespecializations g c = kind_says _ _ c.in-Prespecializations.is _ _ _ _ (kind_listed _ _ c.in-Prespecializations.is _ _ _ _ _ c.entries_at-in-Prespecializations.ensures)

pub returns-in-InvertibleProtocolSet : goal.returns-in-InvertibleProtocolSet
returns-in-InvertibleProtocolSet g c = kind_says _ _ c.in-InvertibleProtocolSet.is _ _ _ _ c.invertible_at.ensures

pub returns-in-SingletonMetadataPointer : goal.returns-in-SingletonMetadataPointer
unfolding row_at block_at run
returns-in-SingletonMetadataPointer g c = ap Some c.plain_at-in-SingletonMetadataPointer.ensures ∙ kind_says _ _ c.in-SingletonMetadataPointer.is _ _ _ _ (rw c.in-SingletonMetadataPointer.is)

pub returns-in-DefaultOverrideTable : goal.returns-in-DefaultOverrideTable
unfolding row_at block_at run
returns-in-DefaultOverrideTable g c = kind_says _ _ c.in-DefaultOverrideTable.is _ _ _ _ (kind_listed _ _ c.in-DefaultOverrideTable.is _ _ _ _ _ c.entries_at-in-DefaultOverrideTable.ensures)
