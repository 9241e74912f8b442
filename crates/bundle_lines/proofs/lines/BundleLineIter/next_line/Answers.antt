-- `bundle_lines::lines::BundleLineIter::next_line` meets its contract.
use Rattle.std.proofs.Common.{sym, ap, ◌∙◌, Err}
use Rattle.std.proofs.lemmas.Result.{err_from_is_err_and}
use Rattle.refusal.specs.Refusal.{answered, mapped, outcome}
use Rattle.bundle_lines.specs.Printed.{pending_of, print_step, print_answer}
use Rattle.type_lines.proofs.LinesLaws.{line_refused, line_accepted}
use Rattle.bundle_lines.proofs.PrintedLaws.{print_as, print_refusal, print_done}
use Rattle.util.proofs.AnswersLaws.{told}
use Rattle.refusal.specs.Guarded.{fault_of}
use Rattle.bundle_lines.proofs.lines.BundleLineIter.next_line.Goals as goal

pub returns-in_err-find_fault : goal.returns-in_err-find_fault
returns-in_err-find_fault c =
    let a = c.args in
    let step = answered (print_step a.bytes.now a.segments.now (pending_of a.self)) in
    let all = line_refused a.segments.now step a.line.now (told fault_of c.find_fault.ensures c.in_err-find_fault.was) in
    let p = err_from_is_err_and c.from_residual.result c.from_residual.ensures.1 in
    record { result_after = ap (λ r. mapped (print_answer a.line.now) (outcome r)) (p.1 ∙ ap Err p.2) ∙ all.0; line_after = all.1 }

pub returns-in-Rows : goal.returns-in-Rows
returns-in-Rows c =
    let called = c.rows_line.ensures in
    let all = print_as _ _ _ _ _ _ _ (sym (ap pending_of c.in-Rows.is)) (called.result_after, called.line_after) in
    record { result_after = all.0; line_after = all.1 }

pub returns-in-Refused : goal.returns-in-Refused
returns-in-Refused c =
    let a = c.args in
    let step = print_refusal a.bytes.now a.segments.now (pending_of a.self) a.line.now _ _ _ (sym (ap pending_of c.in-Refused.is)) c.refused_line.ensures in
    let all = line_accepted _ _ _ _ _ step (told fault_of c.find_fault.ensures c.in_ok-find_fault.was) in
    record { result_after = all.0; line_after = all.1 }

pub returns-in-Done : goal.returns-in-Done
returns-in-Done c =
    let a = c.args in
    let step = print_done a.bytes.now a.segments.now (pending_of a.self) a.line.now (sym (ap pending_of c.in-Done.is)) in
    let all = line_accepted _ _ _ _ _ step (told fault_of c.find_fault.ensures c.in_ok-find_fault.was) in
    record { result_after = all.0; line_after = all.1 }
