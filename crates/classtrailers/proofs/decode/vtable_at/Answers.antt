-- `classtrailers::decode::vtable_at` meets its contract.
use native.Mathlib.Omega.{arith}
use mathlib.Core.Path.{refl, ◌∙◌}
use Rattle.classtrailers.proofs.CallsLaws.{no_header, end_overflows, block_says, below_some}
use Rattle.classtrailers.specs.Blocks.{row_at}
use Rattle.classtrailers.proofs.decode.vtable_at.Goals as goal

pub returns-then-header-lt8 : goal.returns-then-header-lt8
unfolding row_at
returns-then-header-lt8 g c = no_header _ _ _ 7 _ c.read_bytes-header.ensures _ refl (omega arith)

pub overflow_add-result : goal.overflow_add-result
overflow_add-result g c = omega (arith, below_some _ _ (c.in_ok-end.ensures))

pub returns : goal.returns
unfolding row_at
returns g c = block_says _ _ _ 7 _ c.read_bytes-header.ensures _ refl (omega arith) refl _ _ (rw (c.u32_at.ensures, c.u32_at-count.ensures)) (c.in_ok-end.ensures ∙ rw c.u32_at-count.ensures)

pub returns-in_err-end : goal.returns-in_err-end
unfolding row_at
returns-in_err-end g c = c.from_residual.ensures ∙ end_overflows _ _ _ 7 _ c.read_bytes-header.ensures _ refl (omega arith) refl (c.in_err-end.ensures ∙ rw c.u32_at-count.ensures)
