-- `bundle_parts::segments::segment_numbers` meets its contract. The invariant: the first numbers are in the list.
use Rattle.std.proofs.Common.{◌≡◌, length}
use Rattle.bundle_parts.proofs.PartsLaws.{filled}
use Rattle.bundle_parts.proofs.segments.segment_numbers.Given as goal

abbrev pub invariant-loop-k : goal.invariant-loop-k
invariant-loop-k l =
    (length l.out ≡ length l.initial.out) × (l.out ≡ filled l.body l.k l.initial.out)
