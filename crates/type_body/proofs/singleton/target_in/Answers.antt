-- `type_body::singleton::target_in` meets its contract: each `return` is a case of `slotTarget`.
use native.Mathlib.Omega.{arith}
use mathlib.Core.Path.{◌∙◌}
use Rattle.type_body.proofs.SingletonLaws.{zero_target, target_wraps, target_slot}
use Rattle.type_body.proofs.singleton.target_in.Goals as goal

pub returns-then-u32_at-eq0 : goal.returns-then-u32_at-eq0
returns-then-u32_at-eq0 c = zero_target _ _ _ _ c.u32_at.ensures c.if-u32_at-eq0.true

pub returns-in_err-slot_va : goal.returns-in_err-slot_va
returns-in_err-slot_va c = c.from_residual.ensures ∙ target_wraps _ _ _ _ c.u32_at.ensures c.if-u32_at-eq0.false (omega (arith, c.in_err-slot_va.ensures))

pub returns : goal.returns
returns c = target_slot _ _ _ _ c.u32_at.ensures c.if-u32_at-eq0.false _ _ c.in_ok-slot_va.ensures.1 c.pointer_in.ensures c.in_ok-slot_va.ensures.0
