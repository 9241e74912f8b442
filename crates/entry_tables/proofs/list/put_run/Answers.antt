use Rattle.std.proofs.Common.{arith, rules}
use Rattle.entry_tables.proofs.TablesLaws.{ran_none, run_fits, ran_on, far_on, ran_puts, ran_all}
use Rattle.entry_tables.proofs.list.put_run.Goals as goal

pub loop-n-init : goal.loop-n-init
loop-n-init c = record { ran = ran_none _ c.args.shape _ _ _ _ _ _ _; far = search rules; near = search rules }

pub overflow_mul-width : goal.overflow_mul-width
overflow_mul-width c =
    record { fits = omega (arith, c.well_formed.1.1.1.1.1.1.1.0.0, run_fits _ c.args.shape _ _ _ _ _ _ _ c.requires.1.1 _ _ c.loop-n.invariant.ran c.loop-n-test.true, c.loop-n.invariant.ran.long) }

pub overflow_add-at : goal.overflow_add-at
overflow_add-at c =
    record { fits = omega (arith, c.well_formed.1.1.1.1.1.1.1.0.0, run_fits _ c.args.shape _ _ _ _ _ _ _ c.requires.1.1 _ _ c.loop-n.invariant.ran c.loop-n-test.true, c.loop-n.invariant.ran.long) }

pub put_from-requires : goal.put_from-requires
put_from-requires c =
    (omega (arith, c.requires.0, c.loop-n.invariant.near), (omega (arith, c.requires.1.0, c.loop-n.invariant.near), omega (arith, run_fits _ c.args.shape _ _ _ _ _ _ _ c.requires.1.1 _ _ c.loop-n.invariant.ran c.loop-n-test.true)))

pub returns-then-last-past : goal.returns-then-last-past
returns-then-last-past c =
    let more = ran_on _ c.args.shape _ _ _ _ _ _ _ c.requires.1.1 _ _ c.loop-n.invariant.ran _ _ c.loop-n-test.true c.loop-n.invariant.far c.loop-n.invariant.near c.put_from.ensures in
    ran_puts _ c.args.shape _ _ _ _ _ _ _ c.requires.1.1 _ _ more (λ _. omega arith)

pub loop-n-preserved : goal.loop-n-preserved
loop-n-preserved c =
    let more = ran_on _ c.args.shape _ _ _ _ _ _ _ c.requires.1.1 _ _ c.loop-n.invariant.ran _ _ c.loop-n-test.true c.loop-n.invariant.far c.loop-n.invariant.near c.put_from.ensures in
    record { ran = more; far = far_on _ c.args.shape _ _ _ _ _ _ _ c.requires.1.1 _ _ c.loop-n.invariant.ran _ c.loop-n.invariant.far; near = omega (arith, c.if-last-past.false, c.loop-n.invariant.near) }

pub returns : goal.returns
returns c = ran_all _ c.args.shape _ _ _ _ _ _ _ c.requires.1.1 _ _ c.loop-n.invariant.ran c.loop-n-test.false
