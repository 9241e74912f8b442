-- `utf8::scan_from` meets its contract. All three loops carry where the walk stands (`ScanAt`): the two over sequences with nothing pending, the one
-- over a sequence's later bytes with a range for each turn that is left. `formed` is true in all, since each way that makes it false leaves at once.
use Rattle.std.specs.Prelude.{◌≡◌, ◌+◌, ◌-◌, ◌≤◌, true, [], length}
use Rattle.utf8.specs.ScanAt.{ScanAt, others}
use Rattle.utf8.proofs.scan_from.Given as goal

abbrev pub invariant-loop : goal.invariant-loop
invariant-loop l =
    (l.initial.i ≤ l.i) × (l.i + (l.more - l.counter) ≤ length l.s) × (l.formed ≡ true) × ScanAt l.s l.i (others (l.more - l.counter))

abbrev pub invariant-loop-i : goal.invariant-loop-i
invariant-loop-i l = (l.i ≤ length l.s) × (l.formed ≡ true) × ScanAt l.s l.i [] × (l.initial.i ≤ l.i)

abbrev pub decreases-loop-i : goal.decreases-loop-i
decreases-loop-i l = l.stop - l.i

abbrev pub invariant-scan : goal.invariant-scan
invariant-scan l = (l.i ≤ length l.s) × (l.formed ≡ true) × ScanAt l.s l.i []

abbrev pub decreases-scan : goal.decreases-scan
decreases-scan l = length l.s - l.i
