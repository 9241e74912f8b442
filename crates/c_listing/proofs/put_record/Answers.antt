-- `c_listing::put_record` meets its contract: the name is written after the room for its head, and then the head.
use Rattle.std.proofs.Common.{◌+◌, ◌-◌, length, Err, refl, ap, ◌∙◌, arith}
use Rattle.util.proofs.AnswersLaws.{told}
use Rattle.util.proofs.BufferLaws.{past_end, past_into}
use Rattle.refusal.specs.Refusal.{outcome}
use Rattle.typedescriptor.specs.Row.{row_of}
use Rattle.qualified_name.proofs.NameLaws.{name_length}
use Rattle.c_listing.proofs.ListingLaws.{head_long, row_long, written_bytes, refused_bytes, only_deep, kept_part, part_long, record_put, head_alone}
use Rattle.c_listing.proofs.put_record.Goals as goal

pub returns-then-buffer-at : goal.returns-then-buffer-at
returns-then-buffer-at c = (record { value = past_end _ _ _ (omega arith); buffer_after = past_into _ _ _ (omega arith) })

pub returns-then-buffer-at-lt-HEAD : goal.returns-then-buffer-at-lt-HEAD
returns-then-buffer-at-lt-HEAD c =
    let a = c.args in
    let l = row_long a.rt.now.image.now a.rt.now.segments.now a.slot (row_of a.rt.now.image.now a.row) in
    (record { value = past_end _ _ _ (omega (arith, l)); buffer_after = past_into _ _ _ (omega (arith, l)) })

pub overflow_add-result : goal.overflow_add-result
overflow_add-result c =
    let a = c.args in
    let f = told outcome c.joined.ensures.result_value c.in-Ok.is in
    let k = name_length _ _ _ _ _ f in
    let w = record_put a.buffer.now _ _ _ _ _ a.at _ _ _ c.joined.ensures.name_after k.0 k.1.0 (head_long _ _ _ _) c.put_head.ensures (omega (arith, k.1.1, part_long (a.at + 32) a.buffer.now)) (written_bytes _ _ a.slot _ _ _ f) in
    omega (arith, w.0)

pub returns-in-Ok : goal.returns-in-Ok
returns-in-Ok c =
    let a = c.args in
    let f = told outcome c.joined.ensures.result_value c.in-Ok.is in
    let k = name_length _ _ _ _ _ f in
    let w = record_put a.buffer.now _ _ _ _ _ a.at _ _ _ c.joined.ensures.name_after k.0 k.1.0 (head_long _ _ _ _) c.put_head.ensures (omega (arith, k.1.1, part_long (a.at + 32) a.buffer.now)) (written_bytes _ _ a.slot _ _ _ f) in
    record { value = w.1.0; buffer_after = w.1.1 }

pub returns-in-DeepContexts : goal.returns-in-DeepContexts
returns-in-DeepContexts c =
    let a = c.args in
    let f = told outcome c.joined.ensures.result_value (c.in-Err.is ∙ ap Err c.in-DeepContexts.is) in
    let k = kept_part (a.at + 32) (length a.buffer.now - (a.at + 32)) a.buffer.now _ _ _ _ _ _ c.joined.ensures.name_after f in
    let all = head_alone _ _ _ _ _ _ _ k ((refused_bytes _ _ a.slot _ _ _ f).0 refl) (head_long _ _ _ _) c.put_head-in-DeepContexts.ensures (omega arith) in
    record { value = all.0; buffer_after = all.1 }

pub returns-in_default : goal.returns-in_default
returns-in_default c =
    let a = c.args in
    let f = told outcome c.joined.ensures.result_value c.in-Err.is in
    let l = (refused_bytes _ _ a.slot _ _ _ f).1 (λ z. c.in_default.not-DeepContexts (only_deep _ z)) in
    let p = part_long (a.at + 32) a.buffer.now in
    record { value = past_end _ _ _ (omega (arith, l, p)); buffer_after = kept_part (a.at + 32) (length a.buffer.now - (a.at + 32)) a.buffer.now _ _ _ _ _ _ c.joined.ensures.name_after f ∙ past_into _ _ _ (omega (arith, l, p)) }
