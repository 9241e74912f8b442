-- `field_offsets::offsets::pointer_of` meets its contract.
use Rattle.field_offsets.proofs.OffsetsLaws.{no_place}
use Rattle.field_offsets.proofs.offsets.pointer_of.Goals as goal

pub returns-in_default : goal.returns-in_default
returns-in_default c = no_place _ _ _ c.in_default.not-At
