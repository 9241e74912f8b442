-- `parent::header::read_context_name` meets its contract: each `return` is a case of `name_at`.
use native.Mathlib.Omega.{arith}
use mathlib.Core.Path.{sym, ◌∙◌}
use Rattle.parent.proofs.ContextLaws.{inside, name_wraps, no_slot, no_offset, name_at_lem}
use Rattle.parent.proofs.header.read_context_name.Goals as goal

pub returns-then-descriptor_va-gt18446744073709551607 : goal.returns-then-descriptor_va-gt18446744073709551607
returns-then-descriptor_va-gt18446744073709551607 c = (record { result_value = name_wraps _ _ _ (omega arith); inside = tt })

pub returns-then-slot-lt4 : goal.returns-then-slot-lt4
returns-then-slot-lt4 c = (record { result_value = no_slot _ _ _ _ c.read_bytes-slot.ensures (omega arith) (omega arith); inside = tt })

pub returns-then-u32_at-eq0 : goal.returns-then-u32_at-eq0
returns-then-u32_at-eq0 c = (record {
  result_value = no_offset _ _ _ _ c.read_bytes-slot.ensures (sym c.u32_at.ensures ∙ c.if-u32_at-eq0.true) (omega arith) (omega arith);
  inside = tt;
})

pub returns : goal.returns
returns c = (record {
  result_value = name_at_lem _ _ _ _ c.read_bytes-slot.ensures _ c.read_cstr.result (λ z. c.if-u32_at-eq0.false (c.u32_at.ensures ∙ z)) c.pointer_in.ensures
      c.read_cstr.ensures (omega arith) (omega arith);
  inside = inside _ _ _ c.read_cstr.result c.read_cstr.ensures;
})
