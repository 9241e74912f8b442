use native.Mathlib.Omega.{arith}
use mathlib.Core.Path.{refl}
use Rattle.util.proofs.AnswersLaws.{known}
use Rattle.full_rows.proofs.BlocksLaws.{start_putting, all_put, absent_put, there_put, last_put, fails_put}
use Rattle.full_rows.proofs.rows.put_blocks.Goals as goal
use Rattle.full_rows.proofs.rows.put_blocks.Goals.{in-Some+in-Some-block_at+in-Some-end, in_default}

pub loop-row-init : goal.loop-row-init
loop-row-init c = start_putting _ _ _ _ _ _

pub returns-in_default-block_at : goal.returns-in_default-block_at
returns-in_default-block_at c =
    fails_put _ _ _ _ _ _ c.requires _ _ _ c.loop-row.invariant (omega arith) _ (known c.kind_there.ensures c.in-Some.is)
    _ _ (known c.block_at.ensures c.in_default-block_at.is) refl c.put_zeros.ensures

pub returns-in_default-end : goal.returns-in_default-end
returns-in_default-end c =
    last_put _ _ _ _ _ _ c.requires _ _ _ c.loop-row.invariant (omega arith) _ (known c.kind_there.ensures c.in-Some.is)
    _ _ _ _ _ (known c.block_at.ensures c.in-Some-block_at.is) c.in_default-end.is c.put_block.ensures refl refl c.put_zeros-in_default-end.ensures

pub loop-row-preserved : goal.loop-row-preserved
loop-row-preserved c =
    elim c.match-kind_there.branch [
      | in-Some+in-Some-block_at+in-Some-end w ↦
          rw (w.buffer-is, w.address-is)
          (there_put _ _ _ _ _ _ c.requires _ _ _ c.loop-row.invariant (omega arith) _ (known c.kind_there.ensures w.in-Some.is)
          _ _ _ (known w.block_at.ensures w.in-Some-block_at.is) w.in-Some-end.is w.put_block.ensures)
      | in_default w ↦
          rw (w.buffer-is, w.address-is)
          (absent_put _ _ _ _ _ _ c.requires _ _ _ c.loop-row.invariant (omega arith) (known c.kind_there.ensures w.in_default.is) _ w.put_zeros-in_default.ensures)
    ]

pub returns : goal.returns
returns c = all_put _ _ _ _ _ _ c.requires _ _ _ c.loop-row.invariant (omega arith)
