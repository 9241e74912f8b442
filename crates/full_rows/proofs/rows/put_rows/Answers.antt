use native.Mathlib.Omega.{arith}
use Rattle.segment.proofs.MappingLaws.{empty_mapped}
use Rattle.typedescriptor.specs.Row.{row_of}
use Rattle.typedescriptor.proofs.GivenLaws.{start_going, ended, passes, full, goes_on_lem}
use Rattle.full_rows.proofs.FullRowsLaws.{full_row_long, row_mapped, records_told, records_ended}
use Rattle.full_rows.proofs.rows.put_rows.Goals as goal

pub loop-slot-init : goal.loop-slot-init
loop-slot-init c = start_going _ _ _ _ _ _ _ _ (empty_mapped _)

pub loop-slot-preserved-in_default : goal.loop-slot-preserved-in_default
loop-slot-preserved-in_default c = passes _ _ _ _ _ _ _ _ _ _ _ c.loop-slot.invariant c.loop-slot-test.true _ _ c.slot_row_moving-step.ensures c.in_default.is

pub returns-then-room-n : goal.returns-then-room-n
returns-then-room-n c =
    let a = c.args in
    let l = c.loop-slot in
    let long = full_row_long a.rt.now.image.now a.rt.now.segments.now l.slot (row_of a.rt.now.image.now c.in-Some.row) in
    let all = records_told _ _ _ _ _ _ _ _ _ _ (full _ _ _ _ _ _ _ _ _ _ _ l.invariant c.loop-slot-test.true _ _ c.slot_row_moving-step.ensures _ c.in-Some.is (omega (arith, long, l.invariant.long, c.if-room-n.true))) in
    record { value = all.0; buffer_after = all.1 }

pub loop-slot-preserved : goal.loop-slot-preserved
loop-slot-preserved c =
    let a = c.args in
    let l = c.loop-slot in
    let step = c.slot_row_moving-step.ensures in
    let row = row_of a.rt.now.image.now c.in-Some.row in
    let long = full_row_long a.rt.now.image.now a.rt.now.segments.now l.slot row in
    goes_on_lem _ _ _ _ _ _ _ _ _ _ _ l.invariant c.loop-slot-test.true _ _ step _ c.in-Some.is _ _ _ (row_mapped a.rt.now.image.now a.rt.now.segments.now _ (step.mapped l.invariant.mapped) l.slot row) (omega (arith, long)) (omega (arith, l.invariant.long, c.if-room-n.false)) c.put_record.ensures

pub returns : goal.returns
returns c =
    let l = c.loop-slot in
    let all = records_ended _ _ _ _ _ _ _ _ _ _ _ (ended _ _ _ _ _ _ _ _ _ _ _ l.invariant (omega (arith, c.loop-slot-test.false))) (omega (arith, c.max.ensures, l.invariant.from, l.invariant.to, c.loop-slot-test.false)) in
    record { value = all.0; buffer_after = all.1 }
