-- `classtrailers::decode::generic_at` meets its contract.
use native.Mathlib.Omega.{arith}
use mathlib.Core.Path.{refl, ◌∙◌}
use Rattle.classtrailers.proofs.CallsLaws.{no_header, end_overflows, block_says}
use Rattle.classtrailers.specs.Blocks.{row_at, generic_size}
use Rattle.classtrailers.proofs.decode.generic_at.Goals as goal

pub returns-then-header-lt16 : goal.returns-then-header-lt16
unfolding row_at generic_size
returns-then-header-lt16 g c = no_header _ _ _ 15 _ c.read_bytes-header.ensures _ refl (omega arith)

pub returns : goal.returns
unfolding row_at generic_size
returns g c = block_says _ _ _ 15 _ c.read_bytes-header.ensures _ refl (omega arith) refl _ _ refl (c.in_ok-end.ensures ∙ rw (c.u16_at-parameters.ensures, c.u16_at-requirements.ensures))

pub returns-in_err-end : goal.returns-in_err-end
unfolding row_at generic_size
returns-in_err-end g c = c.from_residual.ensures ∙ end_overflows _ _ _ 15 _ c.read_bytes-header.ensures _ refl (omega arith) refl (c.in_err-end.ensures ∙ rw (c.u16_at-parameters.ensures, c.u16_at-requirements.ensures))
