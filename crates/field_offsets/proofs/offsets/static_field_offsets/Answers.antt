-- `field_offsets::offsets::static_field_offsets` meets its contract.
use mathlib.Core.Path.{refl, ◌∙◌}
use Rattle.field_offsets.proofs.OffsetsLaws.{static_at}
use Rattle.field_offsets.proofs.offsets.static_field_offsets.Goals as goal

pub returns-in_err-metadata_va : goal.returns-in_err-metadata_va
returns-in_err-metadata_va c = c.from_residual.ensures ∙ static_at _ _ _ _ _ _ _ c.decode_body-body.ensures c.in_err-metadata_va.ensures refl

pub returns : goal.returns
returns c = static_at _ _ _ _ _ _ _ c.decode_body-body.ensures c.in_ok-metadata_va.ensures c.field_offsets.ensures
