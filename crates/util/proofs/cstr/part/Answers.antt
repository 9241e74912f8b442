-- `util::cstr::part` meets its contract: the tests say whether the part lies within.
use Rattle.std.proofs.Common.{arith}
use Rattle.util.specs.CstrLaws.{part_range, part_out}
use Rattle.util.proofs.cstr.part.Goals as goal
use Rattle.util.proofs.cstr.part.Goals.{else-start-s-via-then-start-s+else-length-s, else-start-s-via-else-start-s}

pub returns-then-length-s : goal.returns-then-length-s
returns-then-length-s c = part_range _ _ _ (omega arith)

pub returns-else-start-s : goal.returns-else-start-s
returns-else-start-s c =
    part_out _ _ _
    (elim c.else-start-s.branch [ else-start-s-via-then-start-s+else-length-s w ↦ omega arith | else-start-s-via-else-start-s w ↦ omega arith ])
