use native.Mathlib.Omega.{arith}
use Rattle.std.proofs.lemmas.List.{set-get_or}
use mathlib.Core.Path.{◌∙◌, ap}
use Rattle.util.proofs.AnswersLaws.{known}
use Rattle.test_lines.specs.Lines.{hex_number}
use Rattle.test_lines.proofs.LinesLaws.{number_within, reading_starts, reading_next, reading_stops, reading_ends}
use borrow.Author.Rules.{rules}
use Rattle.test_lines.proofs.hex.parse_numbers.Goals as goal

pub loop-number-init : goal.loop-number-init
loop-number-init c = reading_starts _ _ _ _

pub returns-in_default : goal.returns-in_default
returns-in_default c = (let all = reading_stops _ _ _ _ _ _ _ c.loop-number.invariant (omega arith) (known c.parse_number.ensures c.in_default.is ∙ ap hex_number c.field.ensures) in (record { value = all.0; out_after = set-get_or c.loop-number.out _ _ ∙ all.1 }))

pub overflow_add-at : goal.overflow_add-at
overflow_add-at c = let h = number_within c.args.line.now c.loop-number.at _ (known c.parse_number.ensures c.in-Some.is ∙ ap hex_number c.field.ensures) in search rules

pub loop-number-preserved : goal.loop-number-preserved
loop-number-preserved c = reading_next _ _ _ _ _ _ _ c.loop-number.invariant (omega arith) _ (known c.parse_number.ensures c.in-Some.is ∙ ap hex_number c.field.ensures)

pub returns : goal.returns
returns c = (let all = reading_ends _ _ _ _ _ _ _ c.loop-number.invariant (omega arith) in (record { value = all.0; out_after = all.1 }))
