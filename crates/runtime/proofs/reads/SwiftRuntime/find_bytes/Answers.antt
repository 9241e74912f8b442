-- `runtime::reads::SwiftRuntime::find_bytes` meets its contract: each `return` is a case of `bytes_place`.
use Rattle.std.proofs.Common.{arith, ◌∙◌}
use Rattle.util.proofs.AnswersLaws.{known}
use Rattle.runtime.proofs.CallsLaws.{bytes_at_lem, bytes_past, bytes_nowhere}
use Rattle.runtime.proofs.reads.SwiftRuntime.find_bytes.Goals.{then-image-off-via-then-image-off, then-image-off-via-else-image-off+then-image-off-2}
use Rattle.runtime.proofs.reads.SwiftRuntime.find_bytes.Goals as goal

pub returns-in_err-off : goal.returns-in_err-off
returns-in_err-off c = c.from_residual.ensures ∙ bytes_nowhere _ _ _ _ (known c.vm_to_file_offset_near.ensures c.in_err-off.was)

pub returns-then-image-off : goal.returns-then-image-off
returns-then-image-off c =
    bytes_past _ _ _ _ c.in_ok-off.off (known c.vm_to_file_offset_near.ensures c.in_ok-off.was)
    (elim c.then-image-off.branch [
      | then-image-off-via-then-image-off w ↦ omega arith
      | then-image-off-via-else-image-off+then-image-off-2 w ↦ omega arith
    ])

pub returns : goal.returns
returns c = bytes_at_lem _ _ _ _ _ (known c.vm_to_file_offset_near.ensures c.in_ok-off.was) (omega arith)
