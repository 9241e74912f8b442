-- `type_lines::lines::next_line` meets its contract.
use Rattle.std.proofs.Common.{ap, ◌∙◌, Err}
use Rattle.std.proofs.lemmas.Result.{err_from_is_err_and}
use Rattle.type_lines.proofs.LinesLaws.{line_refused, line_accepted}
use Rattle.util.proofs.AnswersLaws.{told}
use Rattle.refusal.specs.Guarded.{fault_of}
use Rattle.refusal.specs.Refusal.{answered, mapped, outcome}
use Rattle.type_lines.specs.Lines.{line_step, line_answer}
use Rattle.type_lines.proofs.lines.next_line.Goals as goal

pub returns-in_err-find_fault : goal.returns-in_err-find_fault
returns-in_err-find_fault c =
    let a = c.args in
    let step = answered (line_step a.image.now a.segments.now a.types.now a.vmaddr a.walk) in
    let all = line_refused a.segments.now step a.line.now (told fault_of c.find_fault.ensures c.in_err-find_fault.was) in
    let p = err_from_is_err_and c.from_residual.result c.from_residual.ensures.1 in
    record { result_after = ap (λ r. mapped (line_answer a.line.now) (outcome r)) (p.1 ∙ ap Err p.2) ∙ all.0; line_after = all.1 }

pub returns : goal.returns
returns c =
    let a = c.args in
    let step = answered (line_step a.image.now a.segments.now a.types.now a.vmaddr a.walk) in
    let line = rw c.new-rt.ensures at c.next_into.ensures.result_after in
    let after = rw c.new-rt.ensures at c.next_into.ensures.line_after in
    let all = line_accepted a.segments.now step a.line.now _ _ (line, after) (told fault_of c.find_fault.ensures c.in_ok-find_fault.was) in
    record { result_after = all.0; line_after = all.1 }
