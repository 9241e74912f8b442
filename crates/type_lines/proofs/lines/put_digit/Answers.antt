-- `type_lines::lines::put_digit` meets its contract.
use Rattle.std.proofs.Common.{arith}
use Rattle.type_lines.proofs.LinesLaws.{put_one}
use Rattle.type_lines.proofs.lines.put_digit.Goals as goal

pub returns : goal.returns
returns c = put_one _ _ _ _ _ _ c.put.ensures.value c.put.ensures.buffer_after c.digit_of.ensures (omega arith) (omega arith)
