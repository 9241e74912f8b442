-- `classtrailers::iter::block_of_kind` meets its contract. The invariant: row `row` lies at `address`.
use Rattle.std.specs.Prelude.{◌≡◌, Some}
use Rattle.runtime.specs.Reads.{run}
use Rattle.runtime.specs.Runtime.{tried}
use Rattle.classtrailers.specs.Blocks.{reached}
use Rattle.classtrailers.proofs.iter.block_of_kind.Given as goal

abbrev pub invariant-loop-row : goal.invariant-loop-row
invariant-loop-row l = Some l.address ≡ run l.rt.image.now (tried l.rt) (reached l.trailing l.start l.row)
