-- `entry_tables::window::window_of_all` meets its contract.
use Rattle.std.proofs.Common.{arith, refl}
use Rattle.entry_tables.proofs.TablesLaws.{opens_nowhere, opens_past, opens_least, opens_same}
use Rattle.entry_tables.proofs.window.window_of_all.Goals as goal
use Rattle.entry_tables.proofs.window.window_of_all.Goals.{then-image-from-via-then-image-from, then-image-from-via-else-image-from+then-image-from-2}

pub returns-in_err-mapping : goal.returns-in_err-mapping
returns-in_err-mapping c = opens_same c.args.rt.now.image.now c.args.rt.now.segments.now c.args.size c.args.address _ _ c.from_residual.ensures (opens_nowhere _ _ _ _ c.requires.1 c.in_err-mapping.ensures)

pub overflow_sub-before : goal.overflow_sub-before
overflow_sub-before c = let found = c.in_ok-mapping.ensures in omega (arith, found.1.from)

pub returns-then-image-from : goal.returns-then-image-from
returns-then-image-from c =
    let found = c.in_ok-mapping.ensures in
    opens_past _ _ _ _ c.requires.1 _ found (elim c.then-image-from.branch [
      | then-image-from-via-then-image-from w ↦ omega arith
      | then-image-from-via-else-image-from+then-image-from-2 w ↦ omega arith
    ])

pub returns-then-left-size : goal.returns-then-left-size
returns-then-left-size c = opens_past _ _ _ _ c.requires.1 _ c.in_ok-mapping.ensures (omega arith)

pub overflow_sub-mapping : goal.overflow_sub-mapping
overflow_sub-mapping c = let found = c.in_ok-mapping.ensures in omega (arith, found.1.from, found.1.to)

pub overflow_sub-mapping-2 : goal.overflow_sub-mapping-2
overflow_sub-mapping-2 c = let found = c.in_ok-mapping.ensures in omega (arith, found.1.from, found.1.to)

pub returns : goal.returns
returns c = opens_least _ _ _ _ c.requires.1 _ c.in_ok-mapping.ensures _ _ c.if-image-from.false c.if-image-from-2.false c.if-left-size.false refl c.reach-last.ensures
