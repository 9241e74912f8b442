use Rattle.std.proofs.Common.{arith, refl, length-set}
use Rattle.bundle_parts.proofs.PartsLaws.{filled_none, filled_more}
use Rattle.bundle_parts.proofs.segments.segment_numbers.Goals as goal

pub loop-k-init : goal.loop-k-init
loop-k-init c = (refl, filled_none _ _)

pub loop-k-preserved : goal.loop-k-preserved
loop-k-preserved c =
    (simp length-set c.loop-k.invariant.0, filled_more _ _ _ _ _ _ c.loop-k.invariant.1 (omega arith) c.u64_in.ensures (omega arith))
