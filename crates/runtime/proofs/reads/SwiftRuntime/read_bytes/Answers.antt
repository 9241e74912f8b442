-- `runtime::reads::SwiftRuntime::read_bytes` meets its contract.
use Rattle.util.proofs.AnswersLaws.{known}
use Rattle.runtime.proofs.CallsLaws.{read_at_lem, read_nothing}
use Rattle.runtime.proofs.reads.SwiftRuntime.read_bytes.Goals as goal

pub returns-in-Some : goal.returns-in-Some
returns-in-Some c = read_at_lem _ _ _ _ _ _ (known c.find_bytes.ensures c.in-Some.is) c.part.ensures

pub returns-in-None : goal.returns-in-None
returns-in-None c = read_nothing _ _ _ _ (known c.find_bytes.ensures c.in-None.is)
