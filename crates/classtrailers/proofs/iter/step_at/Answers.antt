-- `classtrailers::iter::step_at` meets its contract.
use Rattle.std.proofs.Common.{◌∙◌}
use Rattle.classtrailers.proofs.CallsLaws.{step_kind, stepped_to}
use Rattle.classtrailers.proofs.iter.step_at.Goals as goal

pub returns-in_err-found : goal.returns-in_err-found
returns-in_err-found c = c.from_residual.ensures ∙ step_kind _ _ _ _ _ c.args.kind _ c.requires.1 c.in_err-found.ensures

pub returns : goal.returns
returns c = stepped_to _ _ _ c.after.ensures ∙ step_kind _ _ _ _ _ c.args.kind _ c.requires.1 c.in_ok-found.ensures
