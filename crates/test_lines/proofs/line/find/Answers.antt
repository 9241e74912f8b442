-- `test_lines::line::find` meets its contract: the place in the rest from `at` on, or the rest's length.
use Rattle.std.proofs.Common.{ℕ, List, ◌≡◌, eqb, drop, ap, refl, ◌∙◌, rules, tests, Bor}
use Rattle.std.proofs.lemmas.Iterator.{YieldsList-from_slice}
use Rattle.std.proofs.lemmas.Iterator.Search.{position_from_yields_List}
use Rattle.test_lines.specs.Lines.{span}
use Rattle.test_lines.proofs.LinesLaws.{found_span, rest_got, find_at}
use Rattle.test_lines.proofs.line.find.Goals as goal

pub returns : goal.returns
returns c =
    let stop = c.args.stop in
    let rest = c.unwrap_or-rest.result.now in
    let tail : rest ≡ drop c.args.at c.args.s.now =
    ap (λ (x : Bor (List ℕ)). x.now) c.unwrap_or-rest.ensures ∙ rest_got _ _ _ _ refl c.get.ensures.lookup in
    let place = position_from_yields_List (λ b. eqb b stop) _ _ c.position.result c.position.ensures.ran (YieldsList-from_slice rest cc) (λ x b q k. search (rules, tests)) in
    let found : c.unwrap_or.result ≡ span stop (drop c.args.at c.args.s.now) = c.unwrap_or.ensures ∙ found_span stop rest _ place ∙ ap (span stop) tail in
    find_at c.args.s.now c.args.at stop _ found
