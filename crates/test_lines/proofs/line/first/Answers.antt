-- `test_lines::line::first` meets its contract: `get` says whether there are that many numbers.
use Rattle.std.proofs.Common.{ℕ, List, ◌∙◌, ap, refl, Bor}
use Rattle.test_lines.proofs.LinesLaws.{first_got}
use Rattle.test_lines.proofs.line.first.Goals as goal

pub returns : goal.returns
returns c = ap (λ (x : Bor (List ℕ)). x.now) c.unwrap_or.ensures ∙ first_got _ _ _ _ refl c.get.ensures.lookup
