-- `entry_tables::calls::table` meets its contract.
use Rattle.std.proofs.lemmas.Result.{err_from_is_err_and}
use Rattle.entry_tables.proofs.TablesLaws.{fault_refused, fault_accepted}
use Rattle.entry_tables.proofs.calls.table.Goals as goal

pub returns-in_err-find_fault : goal.returns-in_err-find_fault
returns-in_err-find_fault c =
    let p = err_from_is_err_and c.from_residual.result c.from_residual.ensures.1 in
    rw (p.1, p.2) (fault_refused _ _ _ c.find_fault.ensures c.in_err-find_fault.was)

pub returns : goal.returns
returns c =
    let listed = rw c.new-rt.ensures at c.list_entries.ensures in
    fault_accepted _ _ _ _ _ listed c.find_fault.ensures c.in_ok-find_fault.was
