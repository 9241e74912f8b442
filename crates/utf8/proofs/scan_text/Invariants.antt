-- `utf8::scan_text` meets its contract. The invariant: the walk is at `i`. Assumes nothing.
use Rattle.std.specs.Prelude.{[]}
use Rattle.utf8.specs.ScanAt.{ScanAt}
use Rattle.utf8.proofs.scan_text.Given as goal

abbrev pub invariant-loop-i : goal.invariant-loop-i
invariant-loop-i l = ScanAt l.s l.i []
