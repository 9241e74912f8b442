-- `typedescriptor::iter::slot_row_moving` meets its contract: the row is the slot's, by a mapping that stays true.
use Rattle.std.proofs.Common.{◌∙◌}
use Rattle.util.proofs.AnswersLaws.{known}
use Rattle.segment.proofs.MappingLaws.{near_mapped, near_nowhere}
use Rattle.runtime.proofs.CallsLaws.{run_mapped}
use Rattle.typedescriptor.proofs.RowLaws.{refers_nowhere, refers_to, no_place}
use Rattle.typedescriptor.proofs.iter.slot_row_moving.Goals as goal

pub returns-in_default : goal.returns-in_default
returns-in_default c = record { mapped = λ w. w; row = λ w. refers_nowhere _ _ _ _ _ (known c.slot_descriptor.ensures c.in_default.is) }

pub returns-in-Some-locate_near : goal.returns-in-Some-locate_near
returns-in-Some-locate_near c =
    let near = near_mapped _ _ _ _ _ c.in-Some-locate_near.is c.locate_near.ensures in
    record {
      mapped = near;
      row = λ w. c.decode_type_descriptor.ensures ∙ run_mapped _ _ _ (near w) _ ∙ refers_to _ _ _ _ _ _ (known c.slot_descriptor.ensures c.in-Some.is);
    }

pub returns-in-None : goal.returns-in-None
returns-in-None c =
    record {
      mapped = λ w. w;
      row = λ w. no_place _ _ _ (near_nowhere _ _ _ _ c.in-None.is c.locate_near.ensures) ∙ refers_to _ _ _ _ _ _ (known c.slot_descriptor.ensures c.in-Some.is);
    }
