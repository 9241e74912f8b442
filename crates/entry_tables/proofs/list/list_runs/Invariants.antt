-- `entry_tables::list::list_runs` meets its contract.
use Rattle.std.proofs.Common.{◌-◌}
use Rattle.entry_tables.specs.Tables.{shape_layout}
use Rattle.entry_tables.proofs.TablesLaws.{Listing}
use Rattle.entry_tables.proofs.list.list_runs.Given as goal

abbrev pub invariant-loop-n : goal.invariant-loop-n
invariant-loop-n l =
    Listing l.rt.image.now l.rt.segments.now (shape_layout l.shape l.stride) l.base_va l.count l.initial.buffer l.initial.k l.k l.n l.buffer

abbrev pub decreases-loop-n : goal.decreases-loop-n
decreases-loop-n l = l.room - l.n
