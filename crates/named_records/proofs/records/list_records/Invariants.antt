-- `named_records::records::list_records` meets its contract.
use Rattle.named_records.proofs.NamedRecordsLaws.{Naming}
use Rattle.named_records.proofs.records.list_records.Given as goal

abbrev pub invariant-loop-n : goal.invariant-loop-n
invariant-loop-n l = Naming l.rt.image.now l.rt.segments.now l.strings.body.now l.strings.vmaddr l.fn.walk l.initial.buffer l.here l.n l.buffer
