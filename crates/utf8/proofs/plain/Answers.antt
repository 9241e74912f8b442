use native.Mathlib.Omega.{arith}
use Rattle.utf8.proofs.Walk.{plain_none, plain_more}
use Rattle.utf8.proofs.plain.Goals as goal

pub loop-k-init : goal.loop-k-init
loop-k-init c = λ e. plain_none _ _

pub loop-k-preserved : goal.loop-k-preserved
loop-k-preserved c = λ e. plain_more _ _ _ _ c.loop-k.invariant e

pub returns : goal.returns
returns c = λ e. record { each = λ k h. (c.loop-k.invariant e).each k (omega arith) }
