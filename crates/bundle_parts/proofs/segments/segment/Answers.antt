-- `bundle_parts::segments::segment` meets its contract.
use Rattle.std.specs.Prelude.{ℕ, List}
use Rattle.std.proofs.Common.{arith, ap, length, ◌∙◌}
use Rattle.bundle_parts.specs.Parts.{segment_in}
use Rattle.bundle_parts.proofs.PartsLaws.{segment_there, segment_past}
use Rattle.bundle_parts.proofs.segments.segment.Goals as goal

pub returns-then-body-number : goal.returns-then-body-number
returns-then-body-number c = segment_past _ _ (omega (arith, ap length c.segments_part-body.ensures))

pub returns : goal.returns
returns c =
    segment_there _ _ _ _ _ _ c.u64_in.ensures c.u64_in-2.ensures c.u64_in-3.ensures c.u64_in-4.ensures (omega arith)
    ∙ ap (λ (body : List ℕ). segment_in body c.args.number) c.segments_part-body.ensures
