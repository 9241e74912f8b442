use native.Mathlib.Omega.{arith}
use native.Mathlib.Nat.{add-zero}
use Rattle.std.specs.Prelude.{◌≡◌, ◌-◌, ◌+◌}
use Rattle.utf8.proofs.Walk.{block_lead, block_tail, tail_done}
use Rattle.utf8.proofs.row_block.Goals as goal

pub loop-k-init : goal.loop-k-init
loop-k-init c = (omega arith, λ e. rw add-zero c.requires.2)

pub loop-init : goal.loop-init
loop-init c =
    let all : c.args.more - 0 ≡ c.args.more = omega arith in
    (omega arith, omega arith, λ e. rw all (block_lead _ _ _ _ c.requires.1 (omega arith) c.loop-k.invariant.1 e))

pub loop-k-preserved : goal.loop-k-preserved
loop-k-preserved c = (omega arith, λ e. tail_done _ _ _ (omega arith) (c.loop.invariant.2 e))

pub loop-preserved : goal.loop-preserved
loop-preserved c =
    let at = c.loop in
    let less : c.args.more - at.counter - 1 ≡ c.args.more - (at.counter + 1) = omega arith in
    (omega arith, omega arith, λ e. rw less at (block_tail _ _ _ _ _ (omega arith) (omega arith) at.invariant.2 e))

pub returns-then-all : goal.returns-then-all
returns-then-all c = (omega arith, c.loop-k.invariant.1 c.if-all.true)

pub returns-else-all : goal.returns-else-all
returns-else-all c = (omega arith, rw add-zero c.requires.2)
