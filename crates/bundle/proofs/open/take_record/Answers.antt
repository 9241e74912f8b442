-- `bundle::open::take_record` meets its contract.
use Rattle.std.proofs.Common.{arith}
use Rattle.bundle.proofs.OpenLaws.{taken_there, taken_nothing, taken_within}
use Rattle.util.proofs.AnswersLaws.{known}
use Rattle.bundle.proofs.open.take_record.Goals as goal

pub overflow_add-result : goal.overflow_add-result
overflow_add-result c = omega (arith, taken_within c.args.kind c.args.bytes.now c.args.at (taken_there _ _ _ _ (known c.record_body.ensures c.in-Some.is)))

pub returns-in-Some : goal.returns-in-Some
returns-in-Some c = taken_there _ _ _ _ (known c.record_body.ensures c.in-Some.is)

pub returns-in-None : goal.returns-in-None
returns-in-None c = taken_nothing _ _ _ (known c.record_body.ensures c.in-None.is)
