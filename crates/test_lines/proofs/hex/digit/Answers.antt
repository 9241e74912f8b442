-- `test_lines::hex::digit` meets its contract. Each arm is a case of `digit_of`.
use Rattle.std.proofs.Common.{arith, ◌∙◌}
use Rattle.test_lines.proofs.LinesLaws.{digit_decimal, digit_letter, digit_other}
use Rattle.test_lines.proofs.hex.digit.Goals as goal

pub returns-in-48-to-57 : goal.returns-in-48-to-57
returns-in-48-to-57 c = c.from.ensures ∙ digit_decimal _ (omega arith) (omega arith)

pub returns-in-97-to-102 : goal.returns-in-97-to-102
returns-in-97-to-102 c = omega (arith, c.from-in-97-to-102.ensures, digit_letter c.args.b (omega arith) (omega arith))

pub returns-in_default : goal.returns-in_default
returns-in_default c = digit_other _ (λ l h. omega arith) (λ l h. omega arith)

pub returns-in_default-2 : goal.returns-in_default-2
returns-in_default-2 c = digit_other _ (λ l h. omega arith) (λ l h. omega arith)

pub returns-in_default-3 : goal.returns-in_default-3
returns-in_default-3 c = digit_other _ (λ l h. omega arith) (λ l h. omega arith)
