use Rattle.std.proofs.Common.{rules}
use Rattle.util.proofs.AnswersLaws.{told}
use Rattle.util.proofs.BufferLaws.{put_whole}
use Rattle.field.specs.Records.{record_step_of}
use Rattle.named_records.proofs.NamedRecordsLaws.{naming_starts, naming_ends, naming_stops, naming_goes_on, naming_fills}
use Rattle.named_records.proofs.records.list_records.Goals as goal

pub loop-n-init : goal.loop-n-init
loop-n-init c = naming_starts _ _ _ _ _ _

pub loop-n-preserved : goal.loop-n-preserved
loop-n-preserved c =
    let put = put_whole c.loop-n.buffer c.record_numbers-numbers.result _ _ _ (search rules) c.copy_from_slice.ensures.after in
    naming_goes_on _ _ _ _ _ _ _ _ _ c.loop-n.invariant _ c.locate.ensures c.loop-n-test.true _ _ _ _ (told record_step_of c.next.ensures c.in-Record.is) c.record_numbers-numbers.ensures put.holds

pub returns-in-Unreadable : goal.returns-in-Unreadable
returns-in-Unreadable c =
    naming_stops _ _ _ _ _ _ _ _ _ c.loop-n.invariant _ c.locate.ensures c.loop-n-test.true _ (told record_step_of c.next.ensures c.in-Unreadable.is)

pub returns-in-End : goal.returns-in-End
returns-in-End c =
    naming_ends _ _ _ _ _ _ _ _ _ c.loop-n.invariant _ c.locate.ensures (told record_step_of c.next.ensures c.in-End.is)

pub returns : goal.returns
returns c = naming_fills _ _ _ _ _ _ _ _ _ c.loop-n.invariant c.loop-n-test.false _ c.stopped.ensures
