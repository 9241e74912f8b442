-- `type_lines::digits::hex_digits` meets its contract. The invariant: zeros, and after them the digits that are made already.
use Rattle.type_lines.proofs.DigitsLaws.{Made}
use Rattle.type_lines.proofs.digits.hex_digits.Given as goal

abbrev pub invariant-loop-place : goal.invariant-loop-place
invariant-loop-place l = Made l.value l.place l.digits l.rest
