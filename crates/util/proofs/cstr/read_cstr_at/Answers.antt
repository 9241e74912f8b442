-- `util::cstr::read_cstr_at` meets its contract: the text of the slice from the offset on.
use Rattle.std.proofs.Common.{arith, ap, ◌∙◌}
use Rattle.utf8.specs.Text.{text_length}
use Rattle.util.specs.CstrLaws.{text_past, text_scanned}
use Rattle.util.proofs.cstr.read_cstr_at.Goals as goal

pub returns-in_err-get : goal.returns-in_err-get
returns-in_err-get c = c.from_residual.ensures ∙ text_past _ _ (omega (arith, c.in_err-get.ensures.lookup))

pub returns-in_err-size : goal.returns-in_err-size
returns-in_err-size c =
    let rest = c.in_ok-get.ensures.lookup in
    c.from_residual-in_err-size.ensures ∙ text_scanned _ _ _ (c.in_err-size.ensures ∙ ap text_length rest.0.2) (omega (arith, rest))

pub returns : goal.returns
returns c =
    let rest = c.in_ok-get.ensures.lookup in
    text_scanned _ _ _ (c.in_ok-size.ensures ∙ ap text_length rest.0.2) (omega (arith, rest))
