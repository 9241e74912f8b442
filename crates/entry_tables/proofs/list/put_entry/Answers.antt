-- `entry_tables::list::put_entry` meets its contract.
use Rattle.std.proofs.Common.{arith, length-set}
use Rattle.entry_tables.proofs.TablesLaws.{put_one, put_two, put_three}
use Rattle.entry_tables.proofs.list.put_entry.Goals as goal

pub bounds-buffer-at-2 : goal.bounds-buffer-at-2
bounds-buffer-at-2 c = simp length-set (omega arith)

pub returns-then-shape-eq0 : goal.returns-then-shape-eq0
returns-then-shape-eq0 c = put_one _ _ _ _ c.requires c.if-shape-eq0.true

pub bounds-buffer-at-3 : goal.bounds-buffer-at-3
bounds-buffer-at-3 c = simp length-set (omega arith)

pub returns-then-shape-eq1 : goal.returns-then-shape-eq1
returns-then-shape-eq1 c = put_two _ _ _ _ c.requires c.if-shape-eq1.true

pub bounds-buffer-at-4 : goal.bounds-buffer-at-4
bounds-buffer-at-4 c = simp length-set (omega arith)

pub returns : goal.returns
returns c = put_three _ _ _ _ c.requires (omega arith)
