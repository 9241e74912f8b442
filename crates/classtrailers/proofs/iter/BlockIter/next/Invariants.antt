-- `classtrailers::iter::BlockIter::next` meets its contract. The invariant: the next block from `row` on is the answer.
use Rattle.runtime.specs.Runtime.{tried}
use Rattle.std.specs.Prelude.{◌≡◌}
use Rattle.classtrailers.specs.Blocks.{next_block}
use Rattle.classtrailers.proofs.iter.BlockIter.next.Given as goal

abbrev pub invariant-loop-row : goal.invariant-loop-row
invariant-loop-row l = next_block l.rt.image.now (tried l.rt) l.fn.self ≡ next_block l.rt.image.now (tried l.rt) (record { trailing = l.self.trailing; row = l.row; address = l.self.address })
