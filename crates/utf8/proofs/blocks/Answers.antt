-- `utf8::blocks` meets its contract: letters, or one row of the table for each length. Assumes nothing.
use native.Mathlib.Omega.{arith}
use Rattle.utf8.specs.Table.{table}
use Rattle.utf8.specs.ScanAt.{RowOf}
use Rattle.utf8.proofs.Rows.{in_row}
use Rattle.utf8.proofs.Walk.{rest_within, rest_walk}
use Rattle.utf8.proofs.blocks.Goals as goal

two_bytes : RowOf 0xc2 0xdf 0x80 0
unfolding table
two_bytes = record { bounds = omega arith; each = λ b l h. in_row 1 table b (omega arith) }

three-bytes : RowOf 0xe1 0xec 0x80 1
unfolding table
three-bytes = record { bounds = omega arith; each = λ b l h. in_row 3 table b (omega arith) }

four_bytes : RowOf 0xf0 0xf0 0x90 2
unfolding table
four_bytes = record { bounds = omega arith; each = λ b l h. in_row 6 table b (omega arith) }

pub overflow_add-result : goal.overflow_add-result
overflow_add-result c =
    let within = rest_within c.args.s.now c.args.at _ c.plain_prefix.ensures.0 in
    omega arith

pub returns-in-0-to-127 : goal.returns-in-0-to-127
returns-in-0-to-127 c =
    let p = c.plain_prefix.ensures in
    let within = rest_within c.args.s.now c.args.at _ p.0 in
    (omega arith, omega arith, rest_walk c.args.s.now c.args.at _ p.0 p.1 c.requires.1)

pub row_blocks-requires : goal.row_blocks-requires
row_blocks-requires c = let pre = c.requires in (pre.0, two_bytes, pre.1)

pub row_blocks-requires-in-224-to-239 : goal.row_blocks-requires-in-224-to-239
row_blocks-requires-in-224-to-239 c = let pre = c.requires in (pre.0, three-bytes, pre.1)

pub row_blocks-requires-in-240-to-255 : goal.row_blocks-requires-in-240-to-255
row_blocks-requires-in-240-to-255 c = let pre = c.requires in (pre.0, four_bytes, pre.1)
