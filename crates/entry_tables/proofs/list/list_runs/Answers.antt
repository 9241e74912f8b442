use Rattle.std.proofs.Common.{◌+◌, arith}
use Rattle.entry_tables.specs.Tables.{entry_numbers, width, shape_layout, Opens}
use Rattle.entry_tables.proofs.TablesLaws.{start_going, stops_end, room_for, room_few, opens_last, below_word, table_full, table_none, table_run}
use Rattle.util.proofs.AnswersLaws.{case}
use Rattle.entry_tables.proofs.list.list_runs.Goals as goal

pub loop-n-init : goal.loop-n-init
loop-n-init c = start_going _ _ _ _ _ _ _ _ _

pub returns-then-count-k : goal.returns-then-count-k
returns-then-count-k c =
    stops_end entry_numbers c.args.rt.now.image.now c.args.rt.now.segments.now (shape_layout c.args.shape c.args.stride) c.args.cursor.base_va c.args.cursor.count (width (shape_layout c.args.shape c.args.stride)) c.args.buffer.now c.args.cursor.next c.loop-n.k c.loop-n.n _ c.loop-n.invariant (omega (arith, c.if-count-k.true))

pub overflow_mul-width : goal.overflow_mul-width
overflow_mul-width c =
    record { fits = omega (arith, c.well_formed.1.1.1.1.0.0, room_for c.args.buffer.now (2 + c.args.shape.more) c.loop-n.n c.min-most.result (omega (arith, c.min-most.ensures, c.loop-n-test.true))) }

pub put_run-run-requires : goal.put_run-run-requires
put_run-run-requires c =
    let w = opens_last _ _ _ _ _ _ (case (Opens _ _ _ _) c.window_at-found.ensures c.in-Some.is) in
    (below_word _ _ _ _ c.entry_address-address.ensures w.0, (w.1, omega (arith, c.loop-n.invariant.long, room_for c.args.buffer.now (2 + c.args.shape.more) c.loop-n.n c.min-most.result (omega (arith, c.min-most.ensures, c.loop-n-test.true)))))

pub overflow_add-n : goal.overflow_add-n
overflow_add-n c =
    record { fits = omega (arith, c.well_formed.1.1.1.1.0.0, room_few c.args.buffer.now (2 + c.args.shape.more) (c.loop-n.n + c.put_run-run.result) (omega (arith, c.put_run-run.ensures.few, c.min-most.ensures, c.loop-n-test.true))) }

pub loop-n-smaller : goal.loop-n-smaller
loop-n-smaller c =
    let l = c.min-most.ensures in
    omega (arith, c.loop-n-test.true, c.put_run-run.ensures.any (omega (arith, l, c.if-count-k.false, c.loop-n-test.true)))

pub loop-n-preserved : goal.loop-n-preserved
loop-n-preserved c =
    table_run c.args.rt.now.image.now c.args.rt.now.segments.now c.args.shape c.args.stride c.args.cursor.base_va c.args.cursor.count c.args.buffer.now c.args.cursor.next c.loop-n.k c.loop-n.n _ c.loop-n.invariant _ _ _ _ _ _ (case (Opens _ _ _ _) c.window_at-found.ensures c.in-Some.is) c.entry_address-address.ensures (omega (arith, c.min-most.ensures)) (omega (arith, c.min-most.ensures)) (omega (arith, c.if-count-k.false)) c.put_run-run.ensures

pub returns-in-None : goal.returns-in-None
returns-in-None c =
    table_none c.args.rt.now.image.now c.args.rt.now.segments.now c.args.shape c.args.stride c.args.cursor.base_va c.args.cursor.count c.args.buffer.now c.args.cursor.next c.loop-n.k c.loop-n.n _ c.loop-n.invariant (omega (arith, c.if-count-k.false)) c.loop-n-test.true (case (Opens _ _ _ _) c.window_at-found.ensures c.in-None.is)

pub returns : goal.returns
returns c =
    table_full c.args.rt.now.image.now c.args.rt.now.segments.now c.args.shape c.args.stride c.args.cursor.base_va c.args.cursor.count c.args.buffer.now c.args.cursor.next c.loop-n.k c.loop-n.n _ c.loop-n.invariant _ c.loop-n-test.false c.stopped.ensures
