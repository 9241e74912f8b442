-- `type_body::body::superclass_name` meets its contract.
use Rattle.std.specs.Prelude.{Some, None}
use mathlib.Core.Path.{refl, ap, ◌∙◌}
use Rattle.type_body.proofs.BodyLaws.{superclass_of, no_superclass_of}
use Rattle.type_body.proofs.body.superclass_name.Goals as goal

pub returns-in_err-class : goal.returns-in_err-class
returns-in_err-class c = c.from_residual.ensures ∙ superclass_of _ _ _ None _ c.in_err-class.was refl

pub returns-in-Class : goal.returns-in-Class
returns-in-Class c = superclass_of _ _ _ _ _ (c.in_ok-class.was ∙ ap Some c.in-Class.is) c.read_cstr.ensures

pub returns-in-Struct : goal.returns-in-Struct
returns-in-Struct c = no_superclass_of _ _ _ _ c.in_ok-class.was c.in-Struct.is
