-- `utf8::row_blocks` meets its contract. The invariant: the walk is at `i`. Assumes nothing.
use Rattle.std.specs.Prelude.{◌-◌, ◌≤◌, [], length}
use Rattle.utf8.specs.ScanAt.{ScanAt}
use Rattle.utf8.proofs.row_blocks.Given as goal

abbrev pub invariant-loop-i : goal.invariant-loop-i
invariant-loop-i l = (l.at ≤ l.i) × (l.i ≤ length l.s) × ScanAt l.s l.i []

abbrev pub decreases-loop-i : goal.decreases-loop-i
decreases-loop-i l = length l.s - l.i
