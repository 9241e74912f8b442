-- `type_lines::lines::next_into` meets its contract: the line of the next row, or the last line.
use Rattle.std.proofs.Common.{refl}
use Rattle.util.proofs.AnswersLaws.{told}
use Rattle.typedescriptor.specs.Slots.{type_step_of}
use Rattle.type_lines.proofs.LinesLaws.{step_done, step_row, step_end}
use Rattle.type_lines.proofs.lines.next_into.Goals as goal

pub returns-then-lister : goal.returns-then-lister
returns-then-lister c =
    let a = c.args in
    let all = step_done a.rt.now.image.now a.rt.now.segments.now a.types.body.now a.types.vmaddr a.lister a.line.now c.if-lister.true in
    record { result_after = all.0; line_after = all.1 }

pub returns-in-Some : goal.returns-in-Some
returns-in-Some c = (let all = step_row _ _ _ _ _ _ _ _ c.if-lister.false _ _ (told (type_step_of _) c.next.ensures c.in-Some.is) c.put_row.ensures refl in (record { result_after = all.0; line_after = all.1 }))

pub returns-in-None : goal.returns-in-None
returns-in-None c = (let all = step_end _ _ _ _ _ _ _ _ c.if-lister.false (told (type_step_of _) c.next.ensures c.in-None.is) c.put_end.ensures in (record { result_after = all.0; line_after = all.1 }))
