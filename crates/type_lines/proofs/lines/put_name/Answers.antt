-- `type_lines::lines::put_name` meets its contract: a part of the line is the name's buffer.
use Rattle.std.proofs.Common.{◌≡◌, ℕ, ◌+◌, ◌-◌, arith}
use native.Mathlib.Nat.{add-sub_cancel_left}
use Rattle.typedescriptor.specs.Row.{row_of}
use Rattle.util.proofs.AnswersLaws.{told}
use Rattle.refusal.specs.Refusal.{outcome}
use Rattle.type_lines.specs.Lines.{name_bytes}
use Rattle.type_lines.proofs.LinesLaws.{name_put, name_room, refusal_put}
use Rattle.type_lines.proofs.lines.put_name.Goals as goal

pub overflow_add-result : goal.overflow_add-result
overflow_add-result c =
    let a = c.args in
    let k : ℕ = a.at + name_bytes - a.at in
    let same : k ≡ name_bytes = add-sub_cancel_left a.at name_bytes in
    omega
    (arith, name_room a.rt.now.image.now a.rt.now.segments.now (row_of a.rt.now.image.now a.row) a.line.now c.qualified_name.new.buffer a.at k same (omega arith) _ (told outcome c.qualified_name.ensures.result_value c.in-Ok.is))

pub returns-in-Ok : goal.returns-in-Ok
returns-in-Ok c =
    let a = c.args in
    let k : ℕ = a.at + name_bytes - a.at in
    let same : k ≡ name_bytes = add-sub_cancel_left a.at name_bytes in
    name_put a.rt.now.image.now a.rt.now.segments.now (row_of a.rt.now.image.now a.row) a.line.now c.qualified_name.new.buffer a.at k same (omega arith) c.qualified_name.ensures.buffer_after _ (told outcome c.qualified_name.ensures.result_value c.in-Ok.is)

pub returns-in-Err : goal.returns-in-Err
returns-in-Err c =
    let a = c.args in
    let k : ℕ = a.at + name_bytes - a.at in
    let same : k ≡ name_bytes = add-sub_cancel_left a.at name_bytes in
    refusal_put a.rt.now.image.now a.rt.now.segments.now (row_of a.rt.now.image.now a.row) a.line.now c.qualified_name.new.buffer a.at k same (omega arith) c.qualified_name.ensures.buffer_after _ _ _ (told outcome c.qualified_name.ensures.result_value c.in-Err.is) c.put_refused.ensures
