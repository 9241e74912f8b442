-- `segment::segment::vm_to_file_offset_in` meets its contract: the first segment that says something decides.
use Rattle.std.specs.Prelude.{ℕ, List, [], map}
use Rattle.std.specs.Slice.Iter.{iter_rest}
use Rattle.std.proofs.Common.{rules, ap, ◌∙◌}
use Rattle.segment.specs.Segments.{Segment, segment_from, file_offset, decides}
use Rattle.segment.proofs.SegmentsLaws.{segments_chunks}
use Rattle.segment.proofs.WalkLaws.{first_answer, first_offset}
use Rattle.segment.proofs.segment.vm_to_file_offset_in.Goals as goal

pub returns : goal.returns
returns c =
    let run = c.find_map.ensures.runs in
    let first = first_answer (λ y. y.now) (λ cs. decides (segment_from cs) c.args.vmaddr) _ [] _ _ (λ x r q k. search rules) run.0 (c.iter.ensures.runs run.0 run.0.seen) _ run.2 in
    c.flatten.ensures
    ∙ first_offset segment_from [] c.args.vmaddr _ _ first
    ∙ ap (λ (cs : List (List ℕ)). file_offset (map segment_from cs) c.args.vmaddr) (ap iter_rest run.1 ∙ c.iter.ensures.rest ∙ c.as_chunks.ensures.front)
    ∙ ap (λ (ss : List Segment). file_offset ss c.args.vmaddr) (segments_chunks c.args.segments.now)
