use Rattle.std.specs.Prelude.{ℕ, ◌≡◌, max, List, map, None}
use Rattle.std.specs.Ordering.{nat_cmp, ord_max}
use Rattle.std.proofs.lemmas.Bool.Decides.{nat_tests}
use Rattle.std.proofs.Common.{arith, sym, ap, subst, ◌∙◌}
use Rattle.segment.specs.Segments.{Segment, segment_from, segments_of}
use Rattle.segment.proofs.SegmentsLaws.{wraps, told, segments_chunks}
use Rattle.segment.proofs.MappingLaws.{Passed, passed_none, at_piece, no_piece, passed_above, passed_below, passed_empty, located}
use Rattle.segment.proofs.segment.locate.Goals as goal
use Rattle.segment.proofs.segment.locate.Goals.{then-address-segment, else-address-segment+then-end-address, else-address-segment+else-end-address+else-segment-ne0}

max_is : (a b : ℕ) → ord_max nat_cmp a b ≡ max a b
max_is a b = grind (arith, nat_tests)

pub loop-numbers-init : goal.loop-numbers-init
loop-numbers-init c =
    subst (λ (ss : List Segment). Passed (segments_of c.args.segments.now) ss c.args.address 0 18446744073709551615)
    (sym (ap (map segment_from) c.as_chunks.ensures.front ∙ segments_chunks c.args.segments.now))
    (passed_none _ _)

pub returns-then-segment : goal.returns-then-segment
returns-then-segment c =
    let p = at_piece _ _ _ c.loop-numbers.invariant c.loop-numbers-test.true c.from_numbers-segment.ensures in
    told _ _ _ None (wraps _ _ (omega arith)) ∙ sym p.sought

pub clip-requires : goal.clip-requires
clip-requires c =
    record {
      ends = omega arith;
      from = (c.loop-numbers.invariant.from, omega arith);
      to = (c.loop-numbers.invariant.to, omega arith);
      bytes = omega arith;
    }

pub returns-then-segment-ne0 : goal.returns-then-segment-ne0
returns-then-segment-ne0 c =
    located _ _ _ _ _ _ (at_piece _ _ _ c.loop-numbers.invariant c.loop-numbers-test.true c.from_numbers-segment.ensures) (omega arith) c.clip.result c.clip.ensures

pub loop-numbers-preserved : goal.loop-numbers-preserved
loop-numbers-preserved c =
    let p = at_piece _ _ _ c.loop-numbers.invariant c.loop-numbers-test.true c.from_numbers-segment.ensures in
    elim c.if-address-segment.branch [
      | then-address-segment w ↦ passed_above _ _ _ _ _ _ p (omega arith) _ _ (omega arith) w.low-is (w.high-is ∙ w.min-high.ensures)
      | else-address-segment+then-end-address w ↦ passed_below _ _ _ _ _ _ p (omega arith) _ _ (omega arith) (w.low-is ∙ w.max-low.ensures ∙ max_is _ _) w.high-is
      | else-address-segment+else-end-address+else-segment-ne0 w ↦ passed_empty _ _ _ _ _ _ p (omega arith) _ _ (omega arith) w.low-is w.high-is
    ]

pub returns : goal.returns
returns c = no_piece _ c.as_chunks.result.0.now c.loop-numbers.numbers-index c.loop-numbers.invariant (omega arith)
