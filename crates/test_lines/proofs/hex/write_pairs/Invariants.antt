-- `test_lines::hex::write_pairs` meets its contract. The invariant: the first `n` bytes are written, and the rest is unchanged.
use Rattle.std.proofs.Common.{◌≡◌, ◌++◌, length, take, drop}
use Rattle.test_lines.specs.Lines.{digit_pairs}
use Rattle.test_lines.proofs.hex.write_pairs.Given as goal

abbrev pub invariant-loop-n : goal.invariant-loop-n
invariant-loop-n l = (length l.out ≡ length l.initial.out) × (l.out ≡ take l.n (digit_pairs l.s) ++ drop l.n l.initial.out)
