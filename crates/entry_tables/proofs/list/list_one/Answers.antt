-- `entry_tables::list::list_one` meets its contract.
use Rattle.std.proofs.Common.{arith, rules}
use Rattle.util.proofs.AnswersLaws.{case}
use Rattle.entry_tables.specs.Tables.{Opens}
use Rattle.entry_tables.proofs.TablesLaws.{opens_last, below_word, one_full, one_none, one_some}
use Rattle.entry_tables.proofs.list.list_one.Goals as goal

pub returns-then-buffer-shape : goal.returns-then-buffer-shape
returns-then-buffer-shape c =
    one_full c.args.rt.now.image.now c.args.rt.now.segments.now c.args.shape c.args.stride c.args.cursor.base_va c.args.cursor.count c.args.buffer.now c.args.cursor.next c.requires (omega (arith, c.if-buffer-shape.true))

pub put_from-requires : goal.put_from-requires
put_from-requires c =
    let w = opens_last _ _ _ _ _ _ (case (Opens _ _ _ _) c.window_at.ensures c.in-Some.is) in
    (omega (arith, below_word _ _ _ _ c.entry_address-address.ensures w.0), (omega (arith, w.1), search rules))

pub returns-in-Some : goal.returns-in-Some
returns-in-Some c =
    one_some c.args.rt.now.image.now c.args.rt.now.segments.now c.args.shape c.args.stride c.args.cursor.base_va c.args.cursor.count c.args.buffer.now c.args.cursor.next c.requires (search rules) _ _ _ _ (case (Opens _ _ _ _) c.window_at.ensures c.in-Some.is) c.entry_address-address.ensures c.put_from.ensures

pub returns-in-None : goal.returns-in-None
returns-in-None c =
    one_none c.args.rt.now.image.now c.args.rt.now.segments.now c.args.shape c.args.stride c.args.cursor.base_va c.args.cursor.count c.args.buffer.now c.args.cursor.next c.requires (search rules) (case (Opens _ _ _ _) c.window_at.ensures c.in-None.is)
