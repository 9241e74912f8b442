-- `full_rows::rows::put_blocks` meets its contract. The invariant: the blocks of the kinds before `row` are written, and row `row` lies at `address`.
use Rattle.runtime.specs.Runtime.{tried}
use Rattle.full_rows.proofs.BlocksLaws.{Putting}
use Rattle.full_rows.proofs.rows.put_blocks.Given as goal

abbrev pub invariant-loop-row : goal.invariant-loop-row
invariant-loop-row l = Putting l.rt.image.now (tried l.rt) l.trailing l.start l.fn.buffer l.at l.row l.address l.buffer
