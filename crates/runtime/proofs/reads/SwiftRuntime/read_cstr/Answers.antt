-- `runtime::reads::SwiftRuntime::read_cstr` meets its contract: each `return` is a case of `text_place`.
use Rattle.std.proofs.Common.{◌∙◌}
use Rattle.util.proofs.AnswersLaws.{known}
use Rattle.runtime.proofs.CallsLaws.{text_zero, text_at_lem, text_there, text_nowhere}
use Rattle.runtime.proofs.reads.SwiftRuntime.read_cstr.Goals as goal

pub returns-then-vmaddr-eq0 : goal.returns-then-vmaddr-eq0
returns-then-vmaddr-eq0 c = text_zero _ _ _ c.if-vmaddr-eq0.true

pub returns-in_err-start : goal.returns-in_err-start
returns-in_err-start c =
    c.from_residual.ensures ∙ text_nowhere _ _ _ c.if-vmaddr-eq0.false (known c.vm_to_file_offset_near.ensures c.in_err-start.was)

pub returns-in_err-size : goal.returns-in_err-size
returns-in_err-size c =
    c.from_residual-in_err-size.ensures
    ∙ text_at_lem _ _ _ c.if-vmaddr-eq0.false _ _ (known c.vm_to_file_offset_near.ensures c.in_ok-start.was)
    (known c.read_cstr_at.ensures c.in_err-size.was)

pub returns : goal.returns
returns c =
    text_there _ _ _ c.if-vmaddr-eq0.false _ c.in_ok-size.field-0 (known c.vm_to_file_offset_near.ensures c.in_ok-start.was)
    (known c.read_cstr_at.ensures c.in_ok-size.was)
