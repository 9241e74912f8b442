use Rattle.std.proofs.Common.{arith}
use Rattle.type_lines.proofs.LinesLaws.{one_digit, more_digits, count_none, count_one, count_more}
use Rattle.type_lines.proofs.lines.+put_decimal.Goals as goal

pub returns-then-left-eq0 : goal.returns-then-left-eq0
returns-then-left-eq0 t c = count_none _ _ _ _ c.if-left-eq0.true

pub put_digit-requires : goal.put_digit-requires
put_digit-requires t c =
    let a = c.args in
    (omega arith, omega (arith, one_digit a.left a.n (omega arith) (omega arith)))

pub returns-then-n-lt10 : goal.returns-then-n-lt10
returns-then-n-lt10 t c = count_one _ _ _ _ _ _ c.put_digit.ensures (omega arith) (omega arith)

pub put_decimal-end-requires : goal.put_decimal-end-requires
put_decimal-end-requires t c =
    let a = c.args in
    (omega arith, omega (arith, more_digits a.left a.n (omega arith) (omega arith)))

pub put_digit-requires-2 : goal.put_digit-requires-2
put_digit-requires-2 t c =
    let a = c.args in
    (omega arith, omega (arith, more_digits a.left a.n (omega arith) (omega arith), c.put_decimal-end.ensures.ends, c.put_decimal-end.auto))

pub returns : goal.returns
returns t c = count_more _ _ _ _ _ _ _ _ c.put_decimal-end.ensures c.put_digit-2.ensures (omega arith) (omega arith) (omega (arith, c.requires))
