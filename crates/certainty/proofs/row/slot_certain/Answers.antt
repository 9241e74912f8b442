-- `certainty::row::slot_certain` meets its contract.
use mathlib.Core.Path.{◌∙◌}
use Rattle.util.proofs.AnswersLaws.{known}
use Rattle.certainty.specs.Certain.{certain}
use Rattle.certainty.proofs.ReadLaws.{slot_reads}
use Rattle.certainty.proofs.row.slot_certain.Goals as goal

pub returns-in-Some : goal.returns-in-Some
returns-in-Some c = c.descriptor_certain.ensures ∙ slot_reads _ _ _ _ _ _ (known c.slot_descriptor.ensures c.in-Some.is)

pub returns-in-None : goal.returns-in-None
unfolding certain
returns-in-None c = slot_reads _ _ _ _ _ _ (known c.slot_descriptor.ensures c.in-None.is)
