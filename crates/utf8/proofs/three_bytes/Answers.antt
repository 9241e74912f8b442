-- `utf8::three_bytes` meets its contract: the byte is of one of the four rows from E0 to EF. Assumes nothing.
use native.Mathlib.Omega.{arith}
use native.Mathlib.Decide.{dec_lt}
use Rattle.utf8.specs.Table.{table}
use Rattle.utf8.proofs.Rows.{in_row}
use Rattle.utf8.proofs.three_bytes.Goals as goal

pub returns-then-b-eq224 : goal.returns-then-b-eq224
unfolding table
returns-then-b-eq224 c = in_row 2 table _ (omega arith)

pub returns-then-b-eq237 : goal.returns-then-b-eq237
unfolding table
returns-then-b-eq237 c = in_row 4 table _ (omega arith)

pub returns : goal.returns
unfolding table
returns c =
    elim (dec_lt c.args.b 0xed) [ yes l ↦ in_row 3 table _ (omega arith) | no l ↦ in_row 5 table _ (omega arith) ]
