-- `segment::segment::look_up` meets its contract: each `return` is a case of `decides`.
use Rattle.std.proofs.Common.{arith}
use Rattle.segment.proofs.SegmentsLaws.{wraps, below, above, no_bytes, held, past_file, added}
use Rattle.segment.proofs.segment.look_up.Goals as goal

pub returns-then-segment : goal.returns-then-segment
returns-then-segment c = wraps _ _ (omega arith)

pub returns-then-address-segment : goal.returns-then-address-segment
returns-then-address-segment c = below _ _ (omega arith) (omega arith)

pub returns-then-segment-delta : goal.returns-then-segment-delta
returns-then-segment-delta c = above _ _ (omega arith) (omega arith) (omega arith)

pub returns-then-segment-eq0 : goal.returns-then-segment-eq0
returns-then-segment-eq0 c = no_bytes _ _ (omega arith) (omega arith) (omega arith) (omega arith)

pub returns-then-segment-delta-2 : goal.returns-then-segment-delta-2
returns-then-segment-delta-2 c = held _ _ (omega arith) (omega arith) (omega arith) _ (omega arith) (past_file _ _ (omega arith))

pub returns : goal.returns
returns c = held _ _ (omega arith) (omega arith) (omega arith) _ (omega arith) (added _ _ (omega arith) _ c.checked_add.ensures)
