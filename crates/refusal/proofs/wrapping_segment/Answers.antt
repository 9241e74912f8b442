-- `refusal::wrapping_segment` meets its contract.
use Rattle.std.specs.Prelude.{List, map}
use Rattle.std.proofs.Common.{ap, ◌∙◌}
use Rattle.segment.specs.Segments.{Segment, segment_from}
use Rattle.segment.proofs.SegmentsLaws.{segments_chunks}
use Rattle.refusal.specs.Guarded.{first_wrapping}
use Rattle.refusal.proofs.GuardedLaws.{first_piece}
use Rattle.refusal.proofs.wrapping_segment.Goals as goal

pub returns : goal.returns
returns c =
    c.first_wrapping.ensures
    ∙ first_piece 0 _
    ∙ ap (λ (ss : List Segment). first_wrapping 0 ss) (ap (map segment_from) c.as_chunks.ensures.front ∙ segments_chunks c.args.segments.now)
