-- `test_replay_full::rows::all_rows` meets its contract.
use Rattle.std.proofs.Common.{◌≡◌, sym, ◌∙◌, arith}
use Rattle.test_replay_full.proofs.ShownLaws.{start_showing, shown_whole, none_shown, row_shown, rows_ended, rows_all}
use Rattle.test_replay_full.proofs.rows.all_rows.Goals as goal

pub loop-rows-init : goal.loop-rows-init
loop-rows-init c = (start_showing _ _ _ _ _ c.new-walk.ensures, λ z. absurd (omega arith))

pub loop-rows-preserved : goal.loop-rows-preserved
loop-rows-preserved c =
    let step = rw c.in-Ok-Some.field-0-is at c.in-Ok-Some.ensures in
    (row_shown _ _ _ _ _ _ c.loop-rows.invariant.0 c.loop-rows-test.true _ step, λ z. shown_whole _ _ _ _ _ _ step)

pub returns-in-Ok-None : goal.returns-in-Ok-None
returns-in-Ok-None c =
    rows_ended _ _ _ _ _ _ c.loop-rows.invariant.0 c.loop-rows-test.true (rw c.in-Ok-None.field-0-is at c.in-Ok-None.ensures)

pub returns-in-Err : goal.returns-in-Err
returns-in-Err c = none_shown _ _ _ _ _ _ c.in-Err.ensures

pub returns : goal.returns
returns c =
    let all : c.loop-rows.rows ≡ 4096 = omega arith in
    sym all ∙ rows_all _ _ _ _ _ _ c.loop-rows.invariant.0 all (c.loop-rows.invariant.1 (omega arith))
