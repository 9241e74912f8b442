-- `certainty::calls::row_certain` meets its contract.
use Rattle.std.proofs.Common.{ap}
use Rattle.std.proofs.lemmas.Result.{err_from_is_err_and}
use Rattle.refusal.specs.Refusal.{answered}
use Rattle.refusal.proofs.GuardedLaws.{refused_as, accepted_by}
use Rattle.certainty.proofs.calls.row_certain.Goals as goal

pub returns-in_err-find_fault : goal.returns-in_err-find_fault
returns-in_err-find_fault c =
    let p = err_from_is_err_and c.from_residual.result c.from_residual.ensures.1 in
    rw (p.1, p.2) (refused_as _ _ c.find_fault.ensures c.in_err-find_fault.was)

pub returns : goal.returns
returns c =
    let certain = rw c.new-rt.ensures at c.slot_certain.ensures in
    accepted_by _ _ c.find_fault.ensures c.in_ok-find_fault.was (ap answered certain)
