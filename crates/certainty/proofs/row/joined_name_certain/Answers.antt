-- `certainty::row::joined_name_certain` meets its contract.
use mathlib.Core.Path.{sym, ◌∙◌}
use Rattle.util.proofs.AnswersLaws.{told}
use Rattle.typedescriptor.specs.Row.{descriptor_of}
use Rattle.certainty.proofs.ReadLaws.{name_open, name_none, name_by}
use Rattle.certainty.proofs.row.joined_name_certain.Goals as goal

pub returns-then-not-slot_certain : goal.returns-then-not-slot_certain
returns-then-not-slot_certain c = sym (name_open _ _ _ _ _ (sym c.slot_certain.ensures ∙ c.if-not-slot_certain.true))

pub returns-in-Some : goal.returns-in-Some
returns-in-Some c =
    c.chain_certain.ensures ∙ sym (name_by _ _ _ _ _ (sym c.slot_certain.ensures ∙ c.if-not-slot_certain.false) _ (told (descriptor_of _) c.slot_row.ensures c.in-Some.is))

pub returns-in-None : goal.returns-in-None
returns-in-None c = sym (name_none _ _ _ _ _ (sym c.slot_certain.ensures ∙ c.if-not-slot_certain.false) (told (descriptor_of _) c.slot_row.ensures c.in-None.is))
