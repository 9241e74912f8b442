use Rattle.std.proofs.Common.{sym, ◌∙◌, arith}
use Rattle.util.proofs.AnswersLaws.{told}
use Rattle.segment.proofs.MappingLaws.{empty_mapped}
use Rattle.typedescriptor.specs.Row.{descriptor_of}
use Rattle.typedescriptor.proofs.RowLaws.{row_next, slot_passed, rows_end}
use Rattle.typedescriptor.proofs.iter.TypeIter.next.Goals as goal

pub returns-in-Some : goal.returns-in-Some
returns-in-Some c =
    row_next _ _ _ _ _ _ (told (descriptor_of _) (c.slot_row_moving-step.ensures.row (empty_mapped _)) c.in-Some.is) (omega arith) ∙ sym c.loop-slot.invariant

pub loop-slot-preserved : goal.loop-slot-preserved
loop-slot-preserved c =
    c.loop-slot.invariant ∙ slot_passed _ _ _ _ _ (told (descriptor_of _) (c.slot_row_moving-step.ensures.row (empty_mapped _)) c.in_default.is) (omega arith)

pub returns : goal.returns
returns c = rows_end _ _ _ _ _ (omega arith) ∙ sym c.loop-slot.invariant
