-- `field_offsets::offsets::metadata_after` meets its contract.
use mathlib.Core.Path.{◌∙◌}
use Rattle.field_offsets.proofs.OffsetsLaws.{no_block, by_block}
use Rattle.field_offsets.proofs.offsets.metadata_after.Goals as goal

pub returns-in_err-block : goal.returns-in_err-block
returns-in_err-block c = c.from_residual-in_err-block.ensures ∙ no_block _ _ _ _ c.in_ok-trailing.ensures c.in_err-block.ensures

pub returns : goal.returns
returns c = by_block _ _ _ _ c.in_ok-trailing.ensures _ _ c.in_ok-block.ensures c.pointer_of.ensures
