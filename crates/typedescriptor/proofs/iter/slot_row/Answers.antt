-- `typedescriptor::iter::slot_row` meets its contract.
use Rattle.std.proofs.Common.{ap, ◌∙◌}
use Rattle.util.proofs.AnswersLaws.{known}
use Rattle.typedescriptor.specs.Row.{descriptor_of}
use Rattle.typedescriptor.proofs.RowLaws.{refers_nowhere, refers_to}
use Rattle.typedescriptor.proofs.iter.slot_row.Goals as goal

pub returns : goal.returns
returns c = c.decode_type_descriptor.ensures ∙ refers_to _ _ _ _ _ _ (known c.slot_descriptor.ensures c.in_ok-address.was)

pub returns-in_err-address : goal.returns-in_err-address
returns-in_err-address c = ap (descriptor_of c.args.rt.now.image.now) c.from_residual.ensures ∙ refers_nowhere _ _ _ _ _ (known c.slot_descriptor.ensures c.in_err-address.was)
