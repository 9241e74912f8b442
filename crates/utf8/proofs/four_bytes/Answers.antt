-- `utf8::four_bytes` meets its contract: the byte is of one of the last three rows, or past them all. Assumes nothing.
use native.Mathlib.Omega.{arith}
use Rattle.utf8.specs.Table.{table}
use Rattle.utf8.proofs.Rows.{in_row}
use Rattle.utf8.proofs.four_bytes.Goals as goal

pub returns-then-b-eq240 : goal.returns-then-b-eq240
unfolding table
returns-then-b-eq240 c = in_row 6 table _ (omega arith)

pub returns-then-b-lt244 : goal.returns-then-b-lt244
unfolding table
returns-then-b-lt244 c = in_row 7 table _ (omega arith)

pub returns-then-b-eq244 : goal.returns-then-b-eq244
unfolding table
returns-then-b-eq244 c = in_row 8 table _ (omega arith)

pub returns : goal.returns
unfolding table
returns c = in_row 9 table _ (omega arith)
