-- `certainty::chain::context_name_certain` meets its contract.
use Rattle.std.specs.Prelude.{not}
use mathlib.Core.Path.{ap, sym, ◌∙◌}
use Rattle.certainty.proofs.ReadLaws.{unnamed, is_named}
use Rattle.certainty.proofs.chain.context_name_certain.Goals as goal

pub returns-then-not-has_name : goal.returns-then-not-has_name
returns-then-not-has_name c = ap not c.if-not-has_name.true ∙ sym (unnamed _ _ _ _ _ c.has_name.ensures c.if-not-has_name.true)

pub returns-else-not-has_name : goal.returns-else-not-has_name
returns-else-not-has_name c = c.slot_name_certain.ensures ∙ sym (is_named _ _ _ _ _ c.has_name.ensures c.if-not-has_name.false)
