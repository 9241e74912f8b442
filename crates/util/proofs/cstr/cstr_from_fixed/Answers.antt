-- `util::cstr::cstr_from_fixed` meets its contract: the text at the field's start.
use Rattle.std.proofs.Common.{◌∙◌}
use Rattle.util.specs.CstrLaws.{fixed_text_lem}
use Rattle.util.proofs.cstr.cstr_from_fixed.Goals as goal

pub returns : goal.returns
returns c = c.cstr_at.ensures ∙ fixed_text_lem _
