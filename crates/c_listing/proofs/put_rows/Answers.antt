use Rattle.std.proofs.Common.{refl, ◌≡◌, ◌∙◌, arith}
use Rattle.segment.proofs.MappingLaws.{empty_mapped}
use Rattle.typedescriptor.specs.Row.{row_of}
use Rattle.typedescriptor.proofs.GivenLaws.{start_going, ended, passes, full, goes_on_lem}
use Rattle.c_listing.proofs.ListingLaws.{row_long, not_put, was_put, listing_told}
use Rattle.c_listing.proofs.put_rows.Goals.{in-Some+else-end-at, in_default}
use Rattle.c_listing.proofs.put_rows.Goals as goal

pub loop-slot-init : goal.loop-slot-init
loop-slot-init c = start_going _ _ _ _ _ _ _ _ (empty_mapped _)

pub put_record-end-requires : goal.put_record-end-requires
put_record-end-requires c = c.slot_row_moving-step.ensures.mapped c.loop-slot.invariant.mapped

pub returns-then-end-at : goal.returns-then-end-at
returns-then-end-at c =
    let a = c.args in
    let l = c.loop-slot in
    let long = row_long a.image.now a.segments.now l.slot (row_of a.image.now c.in-Some.row) in
    let put = c.put_record-end.ensures in
    let kept = not_put _ _ _ _ _ put.value put.buffer_after (omega (arith, long)) c.if-end-at.true in
    let told = listing_told _ _ _ _ _ _ _ _ _ _ (full _ _ _ _ _ _ _ _ _ _ _ l.invariant c.loop-slot-test.true _ _ c.slot_row_moving-step.ensures _ c.in-Some.is kept.0) in
    record { value = told.0; buffer_after = kept.1 ∙ told.1 }

pub loop-slot-preserved : goal.loop-slot-preserved
loop-slot-preserved c =
    let a = c.args in
    let l = c.loop-slot in
    elim c.match-step.branch [
      | in-Some+else-end-at w ↦
          let long = row_long a.image.now a.segments.now l.slot (row_of a.image.now w.in-Some.row) in
          let put = w.put_record-end.ensures in
          let was = was_put _ _ _ _ _ put.value put.buffer_after (omega (arith, long)) w.if-end-at.false in
          rw (w.at-is, w.buffer-is) (goes_on_lem _ _ _ _ _ _ _ _ _ _ _ l.invariant c.loop-slot-test.true _ _ c.slot_row_moving-step.ensures _ w.in-Some.is _ _ _ refl was.1.ends (omega (arith, was.0, was.1.ends)) was.1.holds)
      | in_default w ↦
          rw (w.at-is, w.buffer-is) (passes _ _ _ _ _ _ _ _ _ _ _ l.invariant c.loop-slot-test.true _ _ c.slot_row_moving-step.ensures w.in_default.is)
    ]

pub returns : goal.returns
returns c =
    let l = c.loop-slot in
    let last : c.max.result ≡ l.slot = omega (arith, c.max.ensures, l.invariant.from, l.invariant.to, c.loop-slot-test.false) in
    let told = listing_told _ _ _ _ _ _ _ _ _ _ (ended _ _ _ _ _ _ _ _ _ _ _ l.invariant (omega (arith, c.loop-slot-test.false))) in
    record { value = rw last told.0; buffer_after = told.1 }
