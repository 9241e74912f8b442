use native.Mathlib.Omega.{arith}
use Rattle.qualified_name.proofs.WalkLaws.{put_start, put_next, put_all}
use Rattle.qualified_name.proofs.name.put_hops.Goals as goal

pub loop-k-init : goal.loop-k-init
loop-k-init c = put_start _ _ _ _ _

pub loop-k-preserved : goal.loop-k-preserved
loop-k-preserved c =
    put_next _ _ _ _ _ _ _ _ c.loop-k.invariant _ _ _ _ _ c.part.ensures c.put-dot.ensures.value c.put-dot.ensures.buffer_after c.put-end.ensures.value c.put-end.ensures.buffer_after
    (omega arith) (omega arith)

pub returns : goal.returns
returns c = put_all _ _ _ _ _ _ _ _ c.loop-k.invariant (omega arith)
