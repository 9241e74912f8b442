-- `segment::segment::vm_to_file_offset_near` meets its contract.
use Rattle.std.proofs.Common.{arith, ap, ◌∙◌}
use Rattle.segment.specs.Segments.{Segment, decides}
use Rattle.segment.proofs.MappingLaws.{near_answer, near_next}
use Rattle.segment.proofs.segment.vm_to_file_offset_near.Goals as goal

pub returns-in-Some : goal.returns-in-Some
returns-in-Some c = near_answer _ c.args.mapping c.args.vmaddr (omega arith) _ (c.look_up.ensures ∙ ap (λ (s : Segment). decides s c.args.vmaddr) c.as_segment.ensures) _ c.in-Some.is

pub returns-in-None : goal.returns-in-None
returns-in-None c = near_next _ c.args.mapping c.args.vmaddr (omega arith) _ (c.look_up.ensures ∙ ap (λ (s : Segment). decides s c.args.vmaddr) c.as_segment.ensures) _ c.in-None.is c.vm_to_file_offset_in.ensures
