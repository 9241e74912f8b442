-- `bundle_lines::lines::rows_line` meets its contract.
use Rattle.std.proofs.Common.{ap, ◌∙◌, Ok, Err}
use Rattle.std.proofs.lemmas.Result.{err_from_is_err_and}
use Rattle.util.proofs.AnswersLaws.{told}
use Rattle.refusal.specs.Refusal.{mapped, outcome}
use Rattle.type_lines.specs.Lines.{line_answer}
use Rattle.bundle_lines.specs.Printed.{print_answer}
use Rattle.bundle_lines.proofs.PrintedLaws.{rows_print}
use Rattle.bundle_lines.proofs.lines.rows_line.Goals as goal

pub returns-in_err-found : goal.returns-in_err-found
returns-in_err-found c =
    let a = c.args in
    let called = c.next_line.ensures in
    let all = rows_print a.bytes.now a.segments.now a.layout a.walk a.line.now _ _ c.image_part-image.ensures c.types_part-types.ensures _ _ (told (λ r. mapped (line_answer c.next_line.new.line) (outcome r)) called.result_after c.in_err-found.was, called.line_after) in
    let p = err_from_is_err_and c.from_residual.result c.from_residual.ensures.1 in
    record { result_after = ap (λ r. mapped (print_answer c.next_line.new.line) (outcome r)) (p.1 ∙ ap Err p.2) ∙ all.0; line_after = all.1 }

pub returns-in-Some : goal.returns-in-Some
returns-in-Some c =
    let a = c.args in
    let called = c.next_line.ensures in
    let all = rows_print a.bytes.now a.segments.now a.layout a.walk a.line.now _ _ c.image_part-image.ensures c.types_part-types.ensures _ _ (told (λ r. mapped (line_answer c.next_line.new.line) (outcome r)) called.result_after (c.in_ok-found.was ∙ ap Ok c.in-Some.is), called.line_after) in
    record { result_after = all.0; line_after = all.1 }

pub returns-in-None : goal.returns-in-None
returns-in-None c =
    let a = c.args in
    let called = c.next_line.ensures in
    let all = rows_print a.bytes.now a.segments.now a.layout a.walk a.line.now _ _ c.image_part-image.ensures c.types_part-types.ensures _ _ (told (λ r. mapped (line_answer c.next_line.new.line) (outcome r)) called.result_after (c.in_ok-found.was ∙ ap Ok c.in-None.is), called.line_after) in
    record { result_after = all.0; line_after = all.1 }
