-- `runtime::reflstr::section_text` meets its contract: each `return` is a case of `section_text`.
use Rattle.std.proofs.Common.{arith}
use Rattle.runtime.proofs.CallsLaws.{section_below, section_past, section_at}
use Rattle.runtime.proofs.reflstr.section_text.Goals as goal

pub returns-then-target_va-vmaddr : goal.returns-then-target_va-vmaddr
returns-then-target_va-vmaddr c = section_below _ _ _ (omega arith)

pub returns-then-strings-off : goal.returns-then-strings-off
returns-then-strings-off c = section_past _ _ _ (omega arith) (omega arith)

pub returns : goal.returns
returns c = section_at _ _ _ (omega arith) _ c.read_cstr_at.ensures (omega arith)
