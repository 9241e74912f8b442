-- `test_lines::hex::all_digits` meets its contract.
use Rattle.std.proofs.Common.{ltb, ◌∙◌, rules, tests}
use Rattle.std.proofs.lemmas.Iterator.{YieldsList-from_slice}
use Rattle.std.proofs.lemmas.Iterator.Search.{all_from_yields_List}
use Rattle.test_lines.specs.Lines.{digit_of}
use Rattle.test_lines.proofs.LinesLaws.{digits_by}
use Rattle.test_lines.proofs.hex.all_digits.Goals as goal

pub returns : goal.returns
returns c =
    let s = c.args.s.now in
    all_from_yields_List (λ b. ltb (digit_of b) 16) _ _ c.all.result c.all.ensures.ran (YieldsList-from_slice s cc) (λ x b q k. search (rules, tests)) ∙ digits_by s
