-- `type_lines::lines::put_end` meets its contract.
use Rattle.std.proofs.Common.{arith}
use Rattle.util.proofs.BufferLaws.{put_fits}
use Rattle.type_lines.proofs.DigitsLaws.{decimal_length}
use Rattle.type_lines.proofs.LinesLaws.{end_put}
use Rattle.type_lines.proofs.lines.put_end.Goals as goal

pub put_decimal-b-requires : goal.put_decimal-b-requires
put_decimal-b-requires c =
    let u = put_fits _ _ _ _ _ c.put-a.ensures.value c.put-a.ensures.buffer_after (omega arith) in
    omega (arith, u.ends, decimal_length 20 c.args.given, c.put-a.auto)

pub returns : goal.returns
returns c =
    end_put _ _ _ _ _ _ _ _ c.put-a.ensures.value c.put-a.ensures.buffer_after c.put_decimal-b.ensures c.put.ensures.value c.put.ensures.buffer_after
    (omega arith)
