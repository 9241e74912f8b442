-- `type_lines::digits::digit_of` meets its contract.
use Rattle.std.proofs.Common.{arith}
use Rattle.type_lines.proofs.DigitsLaws.{digit_low, digit_high}
use Rattle.type_lines.proofs.digits.digit_of.Goals as goal

pub returns-then-d-lt10 : goal.returns-then-d-lt10
returns-then-d-lt10 c = digit_low _ (omega arith)

pub returns-else-d-lt10 : goal.returns-else-d-lt10
returns-else-d-lt10 c = digit_high _ (omega arith)
