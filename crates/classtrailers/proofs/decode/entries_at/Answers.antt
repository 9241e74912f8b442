-- `classtrailers::decode::entries_at` meets its contract.
use native.Mathlib.Omega.{arith}
use mathlib.Core.Path.{refl, ◌∙◌}
use Rattle.classtrailers.proofs.CallsLaws.{no_header, end_overflows, block_says, below_some, entries_fit}
use Rattle.classtrailers.proofs.decode.entries_at.Goals as goal

pub returns-then-header-lt4 : goal.returns-then-header-lt4
returns-then-header-lt4 g c = no_header _ _ _ 3 _ c.read_bytes-header.ensures _ refl (omega arith)

pub overflow_mul-entry : goal.overflow_mul-entry
overflow_mul-entry g c = omega (arith, entries_fit c.args.entry c.u32_at-count.result (omega arith) (omega arith))

pub overflow_add-entry : goal.overflow_add-entry
overflow_add-entry g c = omega (arith, entries_fit c.args.entry c.u32_at-count.result (omega arith) (omega arith))

pub overflow_add-result : goal.overflow_add-result
overflow_add-result g c = omega (arith, below_some _ _ (c.in_ok-end.ensures))

pub returns : goal.returns
returns g c = block_says _ _ _ 3 _ c.read_bytes-header.ensures _ refl (omega arith) refl _ _ (rw c.u32_at-count.ensures) (c.in_ok-end.ensures ∙ rw c.u32_at-count.ensures)

pub returns-in_err-end : goal.returns-in_err-end
returns-in_err-end g c = c.from_residual.ensures ∙ end_overflows _ _ _ 3 _ c.read_bytes-header.ensures _ refl (omega arith) refl (c.in_err-end.ensures ∙ rw c.u32_at-count.ensures)
