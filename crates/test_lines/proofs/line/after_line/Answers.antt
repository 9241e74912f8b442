-- `test_lines::line::after_line` meets its contract.
use Rattle.std.proofs.Common.{arith, ◌∙◌}
use Rattle.test_lines.proofs.LinesLaws.{after_found, after_last, after_more}
use Rattle.test_lines.proofs.line.after_line.Goals as goal

pub returns-then-end-s : goal.returns-then-end-s
returns-then-end-s c =
    let e = after_found _ _ _ c.find-end.ensures c.if-end-s.true in
    record { value = e; further = after_more _ _ _ e }

pub returns-else-end-s : goal.returns-else-end-s
returns-else-end-s c =
    let e = after_last _ _ _ c.find-end.ensures (omega arith) in
    record { value = e; further = after_more _ _ _ e }
