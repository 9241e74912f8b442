-- `classtrailers::iter::pass` meets its contract.
use Rattle.std.proofs.Common.{◌∙◌}
use Rattle.util.proofs.AnswersLaws.{known}
use Rattle.classtrailers.proofs.CallsLaws.{pass_none, pass_kind}
use Rattle.classtrailers.proofs.iter.pass.Goals as goal

pub returns-in_default : goal.returns-in_default
returns-in_default c = pass_none _ _ _ _ _ (known c.kind_there.ensures c.in_default.is)

pub returns-in_err-read_block : goal.returns-in_err-read_block
returns-in_err-read_block c = c.from_residual.ensures ∙ pass_kind _ _ _ _ _ _ _ (known c.kind_there.ensures c.in-Some.is) c.in_err-read_block.ensures

pub returns : goal.returns
returns c = pass_kind _ _ _ _ _ _ _ (known c.kind_there.ensures c.in-Some.is) c.in_ok-read_block.ensures
