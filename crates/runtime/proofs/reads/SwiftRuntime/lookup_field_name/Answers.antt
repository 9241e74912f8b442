-- `runtime::reads::SwiftRuntime::lookup_field_name` meets its contract: each `return` is a case of `field_name`.
use Rattle.std.proofs.Common.{ap, ◌∙◌}
use Rattle.util.proofs.AnswersLaws.{known}
use Rattle.runtime.specs.FieldName.{field_name_of}
use Rattle.runtime.proofs.CallsLaws.{name_zero, name_image, name_strings}
use Rattle.runtime.proofs.reads.SwiftRuntime.lookup_field_name.Goals as goal

pub returns-then-target_va-eq0 : goal.returns-then-target_va-eq0
returns-then-target_va-eq0 c = name_zero _ _ _ _ _ c.if-target_va-eq0.true

pub returns-in-Some : goal.returns-in-Some
returns-in-Some c = name_image _ _ _ _ _ c.if-target_va-eq0.false _ (known c.read_cstr.ensures c.in-Some.is)

pub returns-in_err-place-in-None : goal.returns-in_err-place-in-None
returns-in_err-place-in-None c =
    ap field_name_of c.from_residual.ensures
    ∙ name_strings _ _ _ _ _ c.if-target_va-eq0.false _ (known c.read_cstr.ensures c.in-None.is) (known c.section_text.ensures c.in_err-place-in-None.was)

pub returns-in_ok-place-in-None : goal.returns-in_ok-place-in-None
returns-in_ok-place-in-None c = name_strings _ _ _ _ _ c.if-target_va-eq0.false _ (known c.read_cstr.ensures c.in-None.is) (known c.section_text.ensures c.in_ok-place-in-None.was)
