-- `util::cstr::text_part` meets its contract.
use Rattle.std.proofs.Common.{sym, ap, ◌∙◌}
use Rattle.util.specs.Cstr.{text_part}
use Rattle.util.proofs.cstr.text_part.Goals as goal

pub returns-in-Some : goal.returns-in-Some
returns-in-Some c = c.part.ensures ∙ sym (ap (text_part c.args.«data».now) c.in-Some.is)
