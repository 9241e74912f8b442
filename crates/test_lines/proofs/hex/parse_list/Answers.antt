-- `test_lines::hex::parse_list` meets its contract: each `return` is a case of the count's field and of the numbers after it.
use native.Mathlib.Omega.{arith}
use mathlib.Core.Path.{refl, sym, ◌∙◌, ap}
use Rattle.test_lines.specs.Lines.{hex_number}
use Rattle.test_lines.proofs.LinesLaws.{number_within, list_none, list_long, list_all, list_part, part_long}
use borrow.Author.Rules.{rules}
use Rattle.test_lines.proofs.hex.parse_list.Goals as goal

pub returns-in_err-n : goal.returns-in_err-n
returns-in_err-n c = (let all = list_none _ _ c.args.out.now (c.in_err-n.ensures ∙ ap hex_number c.field.ensures) in (record { result_value = c.from_residual.ensures ∙ all.0; out_after = all.1 }))

pub returns-then-out-n : goal.returns-then-out-n
returns-then-out-n c = (let all = list_long _ _ c.args.out.now _ (c.in_ok-n.ensures ∙ ap hex_number c.field.ensures) (omega arith) in (record { result_value = all.0; out_after = all.1 }))

pub overflow_add-from : goal.overflow_add-from
overflow_add-from c = let h = number_within c.args.line.now c.args.from _ (c.in_ok-n.ensures ∙ ap hex_number c.field.ensures) in search rules

pub slice_bounds-parse_numbers-end-2 : goal.slice_bounds-parse_numbers-end-2
slice_bounds-parse_numbers-end-2 c = part_long c.args.line.now c.args.from c.args.out.now _ (c.in_ok-n.ensures ∙ ap hex_number c.field.ensures) (omega arith) _ _ refl refl

pub returns-then-parse_numbers : goal.returns-then-parse_numbers
returns-then-parse_numbers c = (let all = list_all c.args.line.now c.args.from c.args.out.now _ (c.in_ok-n.ensures ∙ ap hex_number c.field.ensures) (omega arith) _ _ refl c.parse_numbers.ensures.out_after (sym c.if-parse_numbers.true ∙ c.parse_numbers.ensures.value) in (record { result_value = all.0; out_after = all.1 }))

pub returns : goal.returns
returns c = (let all = list_part c.args.line.now c.args.from c.args.out.now _ (c.in_ok-n.ensures ∙ ap hex_number c.field.ensures) (omega arith) _ _ refl c.parse_numbers.ensures.out_after (sym c.if-parse_numbers.false ∙ c.parse_numbers.ensures.value) in (record { result_value = all.0; out_after = all.1 }))
