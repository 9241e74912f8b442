use Rattle.std.proofs.Common.{◌-◌, ◌+◌, drop, ap, sym, arith, rules, ◌∙◌}
use Rattle.test_lines.specs.Lines.{field_of}
use Rattle.test_lines.proofs.LinesLaws.{find_bounds, field_next, field_past, field_here}
use Rattle.test_lines.proofs.line.field.Goals as goal

pub loop-init : goal.loop-init
loop-init c = (omega arith, ap (field_of c.args.line.now) (omega arith))

pub returns-then-end-line : goal.returns-then-end-line
returns-then-end-line c =
    field_past c.args.line.now c.loop.at _ c.find-end.ensures (c.args.number - c.loop.counter) (omega arith) (omega arith)
    ∙ sym c.loop.invariant.1

pub overflow_add-at : goal.overflow_add-at
overflow_add-at c =
    let b = find_bounds _ _ _ _ c.find-end.ensures c.loop.invariant.0 in
    search rules

pub loop-preserved : goal.loop-preserved
loop-preserved c =
    let b = find_bounds _ _ _ _ c.find-end.ensures c.loop.invariant.0 in (
      omega arith,
      c.loop.invariant.1
          ∙ field_next c.args.line.now c.loop.at _ c.find-end.ensures (c.args.number - c.loop.counter) (omega arith)
          ∙ ap (field_of (drop (c.find-end.result + 1) c.args.line.now)) (omega arith),
    )

pub slice_bounds-result-count : goal.slice_bounds-result-count
slice_bounds-result-count c =
    let b = find_bounds _ _ _ _ c.find.ensures c.loop.invariant.0 in
    search rules

pub slice_bounds-result-start : goal.slice_bounds-result-start
slice_bounds-result-start c =
    let b = find_bounds _ _ _ _ c.find.ensures c.loop.invariant.0 in
    search rules

pub slice_bounds-result-end-2 : goal.slice_bounds-result-end-2
slice_bounds-result-end-2 c =
    let b = find_bounds _ _ _ _ c.find.ensures c.loop.invariant.0 in
    search rules

pub returns : goal.returns
returns c =
    field_here c.args.line.now c.loop.at _ c.find.ensures (c.args.number - c.loop.counter) (omega arith) ∙ sym c.loop.invariant.1
