-- `test_lines::hex::parse_bytes` meets its contract. Each refusal is a test of `hexBytes` or of `fitting` that fails.
use Rattle.std.specs.Prelude.{◌≡◌, ℕ, Bool, List, [], ◌∷◌, eqb, Some}
use lib.Pointwise.{pointwise}
use Rattle.test_lines.specs.Lines.{equals}
use native.Mathlib.Omega.{arith}
use borrow.Author.Rules.{rules}
use mathlib.Core.Path.{sym, ◌∙◌, ap}
use Rattle.test_lines.proofs.LinesLaws.{bytes_dash, bytes_empty, bytes_odd, bytes_other, bytes_read_lem, fitting_none, fitting_all, fitting_short, pairs_length, answered, equals_by}
use borrow.Author.Tests.{not-true, not-false}
use Rattle.test_lines.proofs.hex.parse_bytes.Goals as goal

dash : (s t : List ℕ) (b : Bool) → b ≡ pointwise eqb s t → t ≡ 45 ∷ [] → b ≡ equals s (45 ∷ [])
dash s t b e f = e ∙ equals_by s t ∙ ap (equals s) f

pub returns-then-eq : goal.returns-then-eq
returns-then-eq c = let got = answered _ _ _ (fitting_all _ _ _ (bytes_dash _ (sym c.if-eq.true ∙ dash c.args.s.now _ _ c.eq.ensures c.as_slice.ensures)) (omega arith)) in record { result_value = got.0; out_after = got.1 }

pub returns-then-is_empty : goal.returns-then-is_empty
returns-then-is_empty c = let got = answered _ _ _ (fitting_none _ _ (bytes_empty _ (sym c.if-eq.false ∙ dash c.args.s.now _ _ c.eq.ensures c.as_slice.ensures) (search rules))) in record { result_value = got.0; out_after = got.1 }

pub returns-then-s-ne0 : goal.returns-then-s-ne0
returns-then-s-ne0 c = let got = answered _ _ _ (fitting_none _ _ (bytes_odd _ (sym c.if-eq.false ∙ dash c.args.s.now _ _ c.eq.ensures c.as_slice.ensures) (λ e. omega arith))) in record { result_value = got.0; out_after = got.1 }

pub returns-then-not-all_digits : goal.returns-then-not-all_digits
returns-then-not-all_digits c =
    let got = answered _ _ _ (fitting_none _ _ (bytes_other _ (sym c.if-eq.false ∙ dash c.args.s.now _ _ c.eq.ensures c.as_slice.ensures) (sym (not-true _ c.if-not-all_digits.true-raw) ∙ c.all_digits.ensures))) in record { result_value = got.0; out_after = got.1 }

pub returns-then-out-count : goal.returns-then-out-count
returns-then-out-count c =
    let s = c.args.s.now in
    let digits = sym (not-false _ c.if-not-all_digits.false-raw) ∙ c.all_digits.ensures in
    let got = answered _ _ _ (fitting_short _ _ _ (bytes_read_lem s (sym c.if-eq.false ∙ dash c.args.s.now _ _ c.eq.ensures c.as_slice.ensures) (search rules) (omega arith) digits) (omega (arith, pairs_length s))) in
    record { result_value = got.0; out_after = got.1 }

pub write_pairs-requires : goal.write_pairs-requires
write_pairs-requires c = (sym c.all_digits.ensures ∙ not-false _ c.if-not-all_digits.false-raw, omega arith)

pub returns : goal.returns
returns c =
    let a = c.args in
    let s = a.s.now in
    let digits = sym (not-false _ c.if-not-all_digits.false-raw) ∙ c.all_digits.ensures in
    let got = answered a.out.now _ _ (fitting_all a.out.now _ _ (bytes_read_lem s (sym c.if-eq.false ∙ dash c.args.s.now _ _ c.eq.ensures c.as_slice.ensures) (search rules) (omega arith) digits) (omega (arith, pairs_length s))) in
    (record { result_value = ap Some (sym (pairs_length s)) ∙ got.0; out_after = c.write_pairs.ensures ∙ got.1 })
