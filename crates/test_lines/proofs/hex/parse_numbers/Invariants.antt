-- `test_lines::hex::parse_numbers` meets its contract. The invariant: the numbers before this one are written, and field `at` is read next.
use Rattle.std.proofs.Common.{length}
use Rattle.test_lines.specs.Lines.{numbers_of_fields}
use Rattle.test_lines.proofs.LinesLaws.{Reading}
use Rattle.test_lines.proofs.hex.parse_numbers.Given as goal

abbrev pub invariant-loop-number : goal.invariant-loop-number
invariant-loop-number l = Reading l.line l.step (numbers_of_fields l.line l.from l.step (length l.initial.out)) l.initial.out l.out l.at l.number-index
