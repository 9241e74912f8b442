-- `full_rows::rows::put_record` meets its contract: the row, its body, and the blocks.
use mathlib.Core.Path.{◌∙◌, ap}
use Rattle.typedescriptor.specs.Row.{row_of}
use Rattle.entry_tables.proofs.PastedLaws.{pasted_as}
use Rattle.full_rows.specs.FullRows.{block_fours}
use Rattle.full_rows.proofs.BlocksLaws.{none_follow}
use Rattle.full_rows.proofs.FullRowsLaws.{parts_put}
use Rattle.full_rows.proofs.rows.put_record.Goals as goal

pub returns-in-Some : goal.returns-in-Some
returns-in-Some c =
    let a = c.args in
    let head = pasted_as _ _ _ _ _ c.put.ensures c.row_numbers.ensures in
    let body = pasted_as _ _ _ _ _ c.put-2.ensures c.write_body.ensures in
    parts_put _ _ a.slot (row_of a.rt.now.image.now a.row) _ a.buffer.now _ _ _ _ a.at c.requires head c.decode_body-body.ensures body
    (ap (block_fours _ _) c.in-Some.ensures) c.put_blocks.ensures

pub returns-in-None : goal.returns-in-None
returns-in-None c =
    let a = c.args in
    let head = pasted_as _ _ _ _ _ c.put.ensures c.row_numbers.ensures in
    let body = pasted_as _ _ _ _ _ c.put-2.ensures c.write_body.ensures in
    parts_put _ _ a.slot (row_of a.rt.now.image.now a.row) _ a.buffer.now _ _ _ _ a.at c.requires head c.decode_body-body.ensures body
    (none_follow _ _ ∙ ap (block_fours _ _) c.in-None.ensures) c.put_zeros.ensures
