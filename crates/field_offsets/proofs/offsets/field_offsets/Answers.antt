-- `field_offsets::offsets::field_offsets` meets its contract: of all bodies a struct has a vector.
use Rattle.std.specs.Prelude.{Some, None}
use mathlib.Core.Path.{refl, ap, ◌∙◌}
use Rattle.field_offsets.proofs.OffsetsLaws.{offsets_of_lem, no_offsets_of, no_offsets_beside}
use Rattle.field_offsets.proofs.offsets.field_offsets.Goals as goal

pub returns-in_err-fields : goal.returns-in_err-fields
returns-in_err-fields c = c.from_residual.ensures ∙ no_offsets_of _ _ _ _ None c.in_err-fields.was refl

pub returns-in-Struct : goal.returns-in-Struct
returns-in-Struct c = offsets_of_lem _ _ _ _ _ (c.in_ok-fields.was ∙ ap Some c.in-Struct.is) _ c.struct_offsets.ensures

pub returns-in-Class : goal.returns-in-Class
returns-in-Class c = no_offsets_beside _ _ _ _ _ c.in_ok-fields.was c.in-Class.is
