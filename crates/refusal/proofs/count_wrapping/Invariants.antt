-- `refusal::count_wrapping` meets its contract. The invariant: those before are counted.
use Rattle.std.proofs.Common.{◌≡◌, take}
use Rattle.std.specs.List.{count_by}
use Rattle.refusal.proofs.GuardedLaws.{wrapping_piece}
use Rattle.refusal.proofs.count_wrapping.Given as goal

abbrev pub invariant-loop-numbers : goal.invariant-loop-numbers
invariant-loop-numbers l = l.count ≡ count_by wrapping_piece (take l.numbers-index l.segments)
