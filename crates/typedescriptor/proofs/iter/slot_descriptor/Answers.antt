-- `typedescriptor::iter::slot_descriptor` meets its contract: each `return` is a case of `slotDescriptor`.
use Rattle.std.proofs.Common.{◌*◌, sym, refl, ap, ◌∙◌, arith}
use Rattle.util.proofs.LittleEndianLaws.{unsigned_part, signed_part}
use Rattle.util.specs.Pointer.{relative_pointer}
use Rattle.typedescriptor.proofs.RowLaws.{past_slots, zero_slot, slot_at}
use Rattle.typedescriptor.proofs.iter.slot_descriptor.Goals as goal

pub returns-then-slots-slot : goal.returns-then-slots-slot
returns-then-slots-slot c = let p = c.args in past_slots p.types.body.now p.types.vmaddr p.slot (omega arith)

pub returns-then-u32_at-eq0 : goal.returns-then-u32_at-eq0
returns-then-u32_at-eq0 c =
    let p = c.args in
    zero_slot p.types.body.now p.types.vmaddr p.slot (sym (unsigned_part 4 p.types.body.now (4 * p.slot) _ refl (omega arith)) ∙ sym c.u32_at.ensures ∙ c.if-u32_at-eq0.true) (omega arith)

pub returns : goal.returns
returns c =
    let p = c.args in
    slot_at p.types.body.now p.types.vmaddr p.slot _ _ (λ z. c.if-u32_at-eq0.false (c.u32_at.ensures ∙ unsigned_part 4 p.types.body.now (4 * p.slot) _ refl (omega arith) ∙ z)) (c.wrapping_add_u64-slot_va.ensures.value)
    (c.pointer_in.ensures ∙ ap (relative_pointer c.wrapping_add_u64-slot_va.result) (signed_part 4 p.types.body.now (4 * p.slot) _ refl (omega arith))) (omega arith)
