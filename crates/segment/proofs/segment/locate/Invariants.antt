-- `segment::segment::locate` meets its contract. The invariant: of the given address, and of those from `low` up to `high`, the segments that
-- are left say what all say.
use Rattle.segment.specs.Segments.{segments_of}
use Rattle.segment.proofs.MappingLaws.{Passed, from_piece}
use Rattle.segment.proofs.segment.locate.Given as goal

abbrev pub invariant-loop-numbers : goal.invariant-loop-numbers
invariant-loop-numbers l =
    Passed (segments_of l.segments) (from_piece l.numbers-items l.numbers-index) l.address l.low l.high
