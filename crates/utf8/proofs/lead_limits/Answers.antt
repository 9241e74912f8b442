-- `utf8::lead_limits` meets its contract: the tests find the row, or leave it to the functions for longer sequences. Assumes nothing.
use native.Mathlib.Omega.{arith}
use Rattle.utf8.specs.Table.{table}
use Rattle.utf8.proofs.Rows.{in_row}
use Rattle.utf8.proofs.lead_limits.Goals as goal

pub returns-then-b-lt128 : goal.returns-then-b-lt128
unfolding table
returns-then-b-lt128 c = in_row 0 table _ (omega arith)

pub returns-then-b-lt194 : goal.returns-then-b-lt194
unfolding table
returns-then-b-lt194 c = in_row 9 table _ (omega arith)

pub returns-then-b-lt224 : goal.returns-then-b-lt224
unfolding table
returns-then-b-lt224 c = in_row 1 table _ (omega arith)
