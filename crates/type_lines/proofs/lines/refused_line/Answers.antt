-- `type_lines::lines::refused_line` meets its contract.
use Rattle.std.proofs.Common.{arith}
use Rattle.type_lines.proofs.LinesLaws.{refused_line_put}
use Rattle.type_lines.proofs.lines.refused_line.Goals as goal

pub returns : goal.returns
returns c = refused_line_put _ _ _ _ _ _ c.put_refused-end.ensures c.put.ensures.value c.put.ensures.buffer_after (omega arith)
