use Rattle.std.proofs.Common.{ℕ, ◌+◌, drop, ap, arith, rules, refl, sym, ◌∙◌}
use Rattle.test_lines.specs.Lines.{hex_value}
use Rattle.test_lines.proofs.LinesLaws.{digits_next, digits_other, digits_end, value_next, value_end, value_large, number_empty, number_other, number_large, number_read}
use Rattle.test_lines.proofs.hex.parse_number.Goals as goal

pub returns-then-is_empty : goal.returns-then-is_empty
returns-then-is_empty c = number_empty _ (search rules)

pub loop-b-init : goal.loop-b-init
loop-b-init c = (search rules, omega arith, refl, refl)

pub returns-then-d-gt15 : goal.returns-then-d-gt15
returns-then-d-gt15 c =
    number_other _ (digits_other c.args.s.now c.loop-b.b-index (omega arith) (omega arith) ∙ sym c.loop-b.invariant.2)

pub returns-in_err-value : goal.returns-in_err-value
returns-in_err-value c =
    c.from_residual.ensures
    ∙ number_large _ (omega (arith, value_large c.args.s.now c.loop-b.b-index c.loop-b.value _ c.digit-d.ensures (omega arith) _ c.loop-b.invariant.3))

pub loop-b-preserved : goal.loop-b-preserved
loop-b-preserved c =
    let s = c.args.s.now in
    let i = c.loop-b.b-index in (
      c.loop-b.invariant.0,
      omega (arith, c.in_ok-value.ensures),
      c.loop-b.invariant.2 ∙ digits_next s i (omega arith) (omega arith),
      c.loop-b.invariant.3 ∙ value_next s i c.loop-b.value _ c.digit-d.ensures (omega arith) ∙ ap (λ (v : ℕ). hex_value v (drop (i + 1) s)) (omega (arith, c.in_ok-value.ensures)),
    )

pub returns : goal.returns
returns c =
    let s = c.args.s.now in
    let i = c.loop-b.b-index in
    number_read _ _ c.loop-b.invariant.0 (digits_end s i (omega arith) ∙ sym c.loop-b.invariant.2)
    (c.loop-b.invariant.3 ∙ value_end s i c.loop-b.value (omega arith)) c.loop-b.invariant.1
