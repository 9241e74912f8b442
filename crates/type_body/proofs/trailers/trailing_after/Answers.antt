-- `type_body::trailers::trailing_after` meets its contract.
use native.Mathlib.Omega.{arith}
use mathlib.Core.Path.{◌∙◌}
use Rattle.type_body.proofs.ItemsLaws.{start_wraps, start_is}
use Rattle.type_body.proofs.trailers.trailing_after.Goals as goal

pub returns-in_err-start : goal.returns-in_err-start
returns-in_err-start c = c.from_residual.ensures ∙ start_wraps _ (omega (arith, c.in_err-start.ensures))

pub returns : goal.returns
returns c = start_is _ _ _ c.in_ok-start.ensures.1 c.in_ok-start.ensures.0
