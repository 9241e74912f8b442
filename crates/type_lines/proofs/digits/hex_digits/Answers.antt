use Rattle.std.proofs.Common.{arith}
use Rattle.type_lines.proofs.DigitsLaws.{made_none, made_more, made_all}
use Rattle.type_lines.proofs.digits.hex_digits.Goals as goal

pub loop-place-init : goal.loop-place-init
loop-place-init c = made_none _

pub bounds-digits-place : goal.bounds-digits-place
bounds-digits-place c = omega (arith, c.loop-place.invariant.bound)

pub loop-place-preserved : goal.loop-place-preserved
loop-place-preserved c = made_more _ _ _ _ _ c.loop-place.invariant c.digit_of.ensures (omega arith)

pub returns : goal.returns
returns c = made_all _ _ _ _ c.loop-place.invariant (omega arith)
