-- `type_lines::lines::put_row` meets its contract.
use Rattle.std.proofs.Common.{arith}
use Rattle.type_lines.proofs.LinesLaws.{head_length, name_text_length, row_put}
use Rattle.type_lines.proofs.lines.put_row.Goals as goal

pub put_name-b-requires : goal.put_name-b-requires
put_name-b-requires c =
    let row = c.args.row in
    omega (arith, c.put_head-a.ensures.ends, head_length row.address row.flags)

pub returns : goal.returns
returns c =
    row_put _ _ _ _ _ _ _ _ _ _ c.put_head-a.ensures c.put_name-b.ensures c.put.ensures.value c.put.ensures.buffer_after
    (name_text_length _ _ _) (omega arith)
