-- `utf8::plain` meets its contract. The invariant: if all tests held so far, the bytes before `k` are plain.
use Rattle.std.specs.Prelude.{◌≡◌, true}
use Rattle.utf8.specs.Plain.{Plain}
use Rattle.utf8.proofs.plain.Given as goal

abbrev pub invariant-loop-k : goal.invariant-loop-k
invariant-loop-k l = l.all ≡ true → Plain l.s l.at l.k
