-- `utf8::row_block` meets its contract. The invariants: if all tests held so far, the walk goes on at `k`, in the inner loop with a range pending for
-- each turn that is left.
use Rattle.std.specs.Prelude.{◌≡◌, ◌+◌, ◌-◌, ◌≤◌, true, []}
use Rattle.utf8.specs.ScanAt.{ScanAt, others}
use Rattle.utf8.proofs.row_block.Given as goal

abbrev pub invariant-loop : goal.invariant-loop
invariant-loop l =
    (l.initial.k ≤ l.k) × (l.k + (l.more - l.counter) ≤ 15) × (l.all ≡ true → ScanAt l.s (l.at + l.k) (others (l.more - l.counter)))

abbrev pub invariant-loop-k : goal.invariant-loop-k
invariant-loop-k l = (l.k ≤ 15) × (l.all ≡ true → ScanAt l.s (l.at + l.k) [])

abbrev pub decreases-loop-k : goal.decreases-loop-k
decreases-loop-k l = 12 - l.k
