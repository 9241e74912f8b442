-- `entry_tables::window::window_of_one` meets its contract.
use Rattle.entry_tables.proofs.TablesLaws.{opens_one, opens_none, opens_same}
use Rattle.entry_tables.proofs.window.window_of_one.Goals as goal

pub returns-in_err-place : goal.returns-in_err-place
returns-in_err-place c =
    let none = rw c.new.ensures at c.in_err-place.ensures in
    opens_same c.args.rt.now.image.now c.args.rt.now.segments.now c.args.size c.args.address _ _ c.from_residual.ensures (opens_none _ _ _ _ c.requires none)

pub returns : goal.returns
returns c =
    let found = rw c.new.ensures at c.in_ok-place.ensures in
    opens_one _ _ _ _ c.requires _ found
