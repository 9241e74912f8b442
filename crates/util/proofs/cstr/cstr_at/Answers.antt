-- `util::cstr::cstr_at` meets its contract.
use Rattle.std.proofs.Common.{ap, ◌∙◌}
use Rattle.util.specs.Cstr.{text_part}
use Rattle.util.proofs.cstr.cstr_at.Goals as goal

pub returns : goal.returns
returns c = c.text_part.ensures ∙ ap (text_part c.args.«data».now) c.read_cstr_at.ensures
