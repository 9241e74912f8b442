-- `test_lines::line::line_at` meets its contract.
use Rattle.std.proofs.Common.{ℕ, List, ◌∙◌, ap, refl, Bor}
use Rattle.test_lines.proofs.LinesLaws.{line_got}
use Rattle.test_lines.proofs.line.line_at.Goals as goal

pub returns : goal.returns
returns c = ap (λ (x : Bor (List ℕ)). x.now) c.unwrap_or.ensures ∙ line_got _ _ _ _ _ c.find.ensures refl c.get.ensures.lookup
