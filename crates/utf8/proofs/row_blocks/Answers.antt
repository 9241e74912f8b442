use native.Mathlib.Omega.{arith}
use Rattle.utf8.proofs.row_blocks.Goals as goal

pub loop-i-init : goal.loop-i-init
loop-i-init c = (omega arith, c.requires.0, c.requires.2)

pub row_block-n-requires : goal.row_block-n-requires
row_block-n-requires c = (omega arith, c.requires.1, c.loop-i.invariant.2)

pub returns-then-n-eq0 : goal.returns-then-n-eq0
returns-then-n-eq0 c = c.loop-i.invariant

pub overflow_add-i : goal.overflow_add-i
overflow_add-i c = omega arith

pub loop-i-smaller : goal.loop-i-smaller
loop-i-smaller c = omega arith

pub loop-i-preserved : goal.loop-i-preserved
loop-i-preserved c = (omega arith, omega arith, c.row_block-n.ensures.1)

pub returns : goal.returns
returns c = c.loop-i.invariant
