-- `segment::segment::clip` meets its contract.
use Rattle.std.proofs.Common.{arith}
use Rattle.segment.proofs.MappingLaws.{clip_past, clip_wraps}
use Rattle.segment.proofs.segment.clip.Goals as goal

pub returns-then-delta-segment : goal.returns-then-delta-segment
returns-then-delta-segment c = clip_past _ _ _ _ c.requires (omega arith)

pub returns-then-delta-segment-2 : goal.returns-then-delta-segment-2
returns-then-delta-segment-2 c = clip_wraps _ _ _ _ c.requires (omega arith) (omega arith)
