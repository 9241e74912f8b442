-- `utf8::plain_prefix` meets its contract. The invariant: the bytes before the block are plain.
use Rattle.std.specs.Prelude.{◌*◌}
use Rattle.utf8.specs.Plain.{Plain}
use Rattle.utf8.proofs.plain_prefix.Given as goal

abbrev pub invariant-loop-n : goal.invariant-loop-n
invariant-loop-n l = Plain l.s 0 (8 * l.n)
