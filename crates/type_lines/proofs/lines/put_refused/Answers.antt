-- `type_lines::lines::put_refused` meets its contract.
use Rattle.std.proofs.Common.{arith}
use Rattle.type_lines.proofs.LinesLaws.{refused_put, refused_room}
use Rattle.type_lines.proofs.lines.put_refused.Goals as goal

pub put_decimal-requires : goal.put_decimal-requires
put_decimal-requires c = refused_room _ _ _ _ _ c.put-number.ensures.value c.put-number.ensures.buffer_after (omega arith)

pub returns : goal.returns
returns c = refused_put _ _ _ _ _ _ _ _ c.put-number.ensures.value c.put-number.ensures.buffer_after c.number.ensures c.put_decimal.ensures (omega arith)
