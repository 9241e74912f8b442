-- `segment::file_offset::file_offset_to_vm_in` meets its contract: the first of the turned segments that says something decides.
use Rattle.std.specs.Prelude.{ℕ, ◌≡◌, List, [], ◌∷◌, map}
use Rattle.std.specs.Slice.Iter.{iter_rest}
use Rattle.std.proofs.Common.{rules, refl, ap, ◌∙◌}
use Rattle.segment.specs.Segments.{Segment, segment_from, file_offset, decides}
use Rattle.segment.specs.VmAddress.{turned, vm_address}
use Rattle.segment.proofs.SegmentsLaws.{segments_chunks}
use Rattle.segment.proofs.WalkLaws.{first_answer, first_offset}
use Rattle.segment.proofs.file_offset.file_offset_to_vm_in.Goals as goal

each_turned : (cs : List (List ℕ)) → map (λ c. turned (segment_from c)) cs ≡ map turned (map segment_from cs)
each_turned [] = refl
each_turned (c ∷ cs) = ap (λ (ss : List Segment). turned (segment_from c) ∷ ss) (each_turned cs)

pub returns : goal.returns
unfolding vm_address
returns c =
    let run = c.find_map.ensures.runs in
    let first = first_answer (λ y. y.now) (λ cs. decides (turned (segment_from cs)) c.args.offset) _ [] _ _ (λ x r q k. search rules) run.0 (c.iter.ensures.runs run.0 run.0.seen) _ run.2 in
    c.flatten.ensures
    ∙ first_offset (λ cs. turned (segment_from cs)) [] c.args.offset _ _ first
    ∙ ap (λ (cs : List (List ℕ)). file_offset (map (λ c. turned (segment_from c)) cs) c.args.offset) (ap iter_rest run.1 ∙ c.iter.ensures.rest ∙ c.as_chunks.ensures.front)
    ∙ ap (λ (ss : List Segment). file_offset ss c.args.offset) (each_turned _ ∙ ap (map turned) (segments_chunks c.args.segments.now))
