-- `test_replay_full::fields::walk_fields` meets its contract.
use Rattle.std.proofs.Common.{refl, sym, ◌∙◌, arith}
use Rattle.test_replay_full.proofs.ShownLaws.{end_here, end_further, end_over}
use Rattle.test_replay_full.proofs.fields.walk_fields.Goals as goal

pub loop-init : goal.loop-init
loop-init c = refl

pub loop-preserved : goal.loop-preserved
loop-preserved c = c.loop.invariant ∙ end_further _ _ _ _ _ c.next-found.ensures c.loop-test.true _ c.in-Some.is

pub returns-in_default : goal.returns-in_default
returns-in_default c = sym (c.loop.invariant ∙ end_here _ _ _ _ _ c.next-found.ensures c.loop-test.true c.in_default.is)

pub returns : goal.returns
returns c = end_over _ _ _ _ (omega arith) ∙ sym c.loop.invariant
