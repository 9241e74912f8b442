use Rattle.std.proofs.Common.{arith, subst}
use borrow.Author.Tests.{not-false}
use Rattle.utf8.specs.Plain.{Plain}
use Rattle.utf8.proofs.Walk.{plain_none, plain_join}
use Rattle.utf8.proofs.plain_prefix.Goals as goal

pub loop-n-init : goal.loop-n-init
loop-n-init c = plain_none _ _

pub returns-then-not-plain : goal.returns-then-not-plain
returns-then-not-plain c = (omega arith, c.loop-n.invariant)

pub loop-n-preserved : goal.loop-n-preserved
loop-n-preserved c =
    subst (Plain c.args.s.now 0) (omega arith) (plain_join _ _ _ c.loop-n.invariant (c.plain.ensures (not-false _ c.if-not-plain.false-raw)))

pub returns : goal.returns
returns c = (omega arith, subst (Plain c.args.s.now 0) (omega arith) c.loop-n.invariant)
