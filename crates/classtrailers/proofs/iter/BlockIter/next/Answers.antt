use native.Mathlib.Omega.{arith}
use mathlib.Core.Path.{sym, ◌∙◌}
use Rattle.util.proofs.AnswersLaws.{known}
use Rattle.classtrailers.proofs.CallsLaws.{is_there_lem, is_absent, next_there, next_absent, walk_over}
use Rattle.classtrailers.proofs.iter.BlockIter.next.Goals as goal

pub step_at-requires : goal.step_at-requires
step_at-requires c = (omega arith, (is_there_lem _ _ _ (known c.kind_there.ensures c.in-Some.is)).1)

pub returns-in-Some : goal.returns-in-Some
returns-in-Some c = next_there _ _ _ _ _ _ (is_there_lem _ _ _ (known c.kind_there.ensures c.in-Some.is)).0 c.step_at.ensures (omega arith) ∙ sym c.loop-row.invariant

pub loop-row-preserved : goal.loop-row-preserved
loop-row-preserved c = c.loop-row.invariant ∙ next_absent _ _ _ _ _ (is_absent _ _ (known c.kind_there.ensures c.in_default.is)) (omega arith)

pub returns : goal.returns
returns c = walk_over _ _ _ _ _ (omega arith) ∙ sym c.loop-row.invariant
