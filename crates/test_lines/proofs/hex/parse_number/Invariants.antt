-- `test_lines::hex::parse_number` meets its contract. The invariant: the digits from `b` on, after those of `value`, make the number of the whole text.
use Rattle.std.proofs.Common.{◌≡◌, ◌<◌, ◌^◌, length, drop}
use Rattle.test_lines.specs.Lines.{all_digits, hex_value}
use Rattle.test_lines.proofs.hex.parse_number.Given as goal

abbrev pub invariant-loop-b : goal.invariant-loop-b
invariant-loop-b l =
    (0 < length l.s)
    × (l.value < 2 ^ 64)
    × (all_digits l.s ≡ all_digits (drop l.b-index l.s))
    × (hex_value 0 l.s ≡ hex_value l.value (drop l.b-index l.s))
