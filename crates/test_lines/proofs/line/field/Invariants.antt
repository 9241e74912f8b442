-- `test_lines::line::field` meets its contract. The invariant: the field that is as many fields after the place `at` as turns are left is the answer.
use Rattle.std.proofs.Common.{◌≡◌, ◌-◌, ◌≤◌, length, drop}
use Rattle.test_lines.specs.Lines.{field_of}
use Rattle.test_lines.proofs.line.field.Given as goal

abbrev pub invariant-loop : goal.invariant-loop
invariant-loop l = (l.at ≤ length l.line) × (field_of l.line l.number ≡ field_of (drop l.at l.line) (l.number - l.counter))
