-- `certainty::chain::slot_name_certain` meets its contract: each `return` is a case of `name_at`.
use native.Mathlib.Omega.{arith}
use mathlib.Core.Path.{sym, ◌∙◌}
use Rattle.certainty.proofs.ReadLaws.{high_name, no_slot, zero_name, name_there}
use Rattle.certainty.proofs.chain.slot_name_certain.Goals as goal

pub returns-then-descriptor_va-gt18446744073709551607 : goal.returns-then-descriptor_va-gt18446744073709551607
returns-then-descriptor_va-gt18446744073709551607 c = sym (high_name _ _ _ (omega arith))

pub returns-then-slot-lt4 : goal.returns-then-slot-lt4
returns-then-slot-lt4 c = c.is_nowhere.ensures ∙ sym (no_slot _ _ _ _ c.read_bytes-slot.ensures (omega arith) (omega arith))

pub returns-then-u32_at-eq0 : goal.returns-then-u32_at-eq0
returns-then-u32_at-eq0 c =
    sym (zero_name _ _ _ _ c.read_bytes-slot.ensures (omega arith) (sym c.u32_at.ensures ∙ c.if-u32_at-eq0.true) (omega arith))

pub returns : goal.returns
returns c =
    c.text_certain.ensures
    ∙ sym (name_there _ _ _ _ c.read_bytes-slot.ensures (omega arith) _ (λ z. c.if-u32_at-eq0.false (c.u32_at.ensures ∙ z)) c.pointer_in.ensures (omega arith))
