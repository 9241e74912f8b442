-- `type_body::trailers::trailing` meets its contract: each body is a case of `trailers`.
use Rattle.std.specs.Prelude.{Some, None}
use mathlib.Core.Path.{refl, ap, ◌∙◌}
use Rattle.type_body.proofs.ItemsLaws.{extra_is, trailers_of_lem, trailers_beside}
use Rattle.type_body.proofs.trailers.trailing.Goals as goal

pub returns-in_err-class : goal.returns-in_err-class
returns-in_err-class c = c.from_residual.ensures ∙ trailers_of_lem _ _ _ None _ c.in_err-class.was refl

pub returns-in-Class : goal.returns-in-Class
returns-in-Class c = trailers_of_lem _ _ _ _ _ (c.in_ok-class.was ∙ ap Some c.in-Class.is) (extra_is _ _ _ _ _ _ c.extra_flags.ensures c.trailing_after.ensures)

pub returns-in-Struct : goal.returns-in-Struct
returns-in-Struct c = trailers_beside _ _ _ _ _ c.in_ok-class.was c.in-Struct.is c.trailing_after-in-Struct.ensures
