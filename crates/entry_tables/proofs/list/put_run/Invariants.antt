-- `entry_tables::list::put_run` meets its contract.
use Rattle.std.proofs.Common.{◌≡◌, ◌*◌, ◌≤◌}
use Rattle.entry_tables.proofs.TablesLaws.{Ran}
use Rattle.entry_tables.proofs.list.put_run.Given as goal

abbrev pub invariant-loop-n : goal.invariant-loop-n
invariant-loop-n l =
    record {
      ran : Ran l.image l.shape l.stride l.place l.last l.address l.most l.initial.buffer l.at l.n l.buffer;
      far : l.past ≡ l.stride * l.n;
      near : l.past ≤ l.last;
    }
