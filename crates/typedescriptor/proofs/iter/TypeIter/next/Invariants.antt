-- `typedescriptor::iter::TypeIter::next` meets its contract. The invariant: the next row from `slot` on is the answer.
use Rattle.std.proofs.Common.{◌≡◌}
use Rattle.typedescriptor.specs.Slots.{next_row}
use Rattle.typedescriptor.proofs.iter.TypeIter.next.Given as goal

abbrev pub invariant-loop-slot : goal.invariant-loop-slot
invariant-loop-slot l =
    let next = next_row l.rt.image.now l.rt.segments.now l.types.body.now l.types.vmaddr in
    next l.fn.self.slot ≡ next l.slot
