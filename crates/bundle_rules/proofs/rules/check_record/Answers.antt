-- `bundle_rules::rules::check_record` meets its contract: the tests are those of `check_at`, in its order.
use Rattle.std.specs.Prelude.{ℕ, ◌≡◌, Option, Some, None, Result, Err}
use Rattle.std.specs.Option.{ok_or}
use Rattle.std.specs.Result.{result_ok}
use Rattle.std.proofs.Common.{arith, rules, sym, ap, ◌∙◌}
use mathlib.Core.Logic.{⊎_elim}
use Rattle.util.proofs.AnswersLaws.{known}
use Rattle.util.proofs.LittleEndianLaws.{little_within, little_beyond}
use Rattle.bundle_rules.specs.Rule.{breaks}
use Rattle.bundle_rules.specs.declared.rules.Rule.{Rule}
use Rattle.bundle_rules.proofs.RuleLaws.{check_past, check_cut, check_kind_lem, kind_low, kind_high, kind_not_above, kind_kept, kind_segments, kind_led}
use Rattle.bundle_rules.proofs.rules.check_record.Goals as goal

-- a number that cannot be read
cut : (r : Option ℕ) (v : Result ℕ Rule) (x : Rule) → v ≡ ok_or r Rule.CutShort → v ≡ Err x → breaks x ≡ breaks Rule.CutShort
cut (Some n) v x e t = cc
cut None v x e t = cc

pub returns-in_err-size : goal.returns-in_err-size
returns-in_err-size c =
    let past = check_past c.args.bytes.now c.args.last c.args.at (omega (arith, little_beyond 4 _ _ (known c.read_u32_le_at.ensures (c.ok_or.ensures.ok_part ∙ ap result_ok c.in_err-size.was)))) in
    let told = cut _ _ _ c.ok_or.ensures.value c.in_err-size.was ∙ past in
    search rules

pub overflow_add-at : goal.overflow_add-at
overflow_add-at c = omega (arith, little_within 4 _ _ _ (known c.read_u32_le_at.ensures (c.ok_or.ensures.ok_part ∙ ap result_ok c.in_ok-size.was)))

pub returns-in_err-kind : goal.returns-in_err-kind
returns-in_err-kind c =
    let past = check_past c.args.bytes.now c.args.last c.args.at (omega (arith, little_beyond 2 _ _ (known c.read_u16_le_at.ensures (c.ok_or-2.ensures.ok_part ∙ ap result_ok c.in_err-kind.was)))) in
    let told = cut _ _ _ c.ok_or-2.ensures.value c.in_err-kind.was ∙ past in
    search rules

pub overflow_add-start : goal.overflow_add-start
overflow_add-start c = omega (arith, little_within 2 _ _ _ (known c.read_u16_le_at.ensures (c.ok_or-2.ensures.ok_part ∙ ap result_ok c.in_ok-kind.was)))

pub overflow_sub-bytes : goal.overflow_sub-bytes
overflow_sub-bytes c = omega (arith, little_within 2 _ _ _ (known c.read_u16_le_at.ensures (c.ok_or-2.ensures.ok_part ∙ ap result_ok c.in_ok-kind.was)))

pub returns-then-bytes-start : goal.returns-then-bytes-start
returns-then-bytes-start c = check_cut _ _ _ _ _ (known c.read_u32_le_at.ensures (c.ok_or.ensures.ok_part ∙ ap result_ok c.in_ok-size.was)) (known c.read_u16_le_at.ensures (c.ok_or-2.ensures.ok_part ∙ ap result_ok c.in_ok-kind.was)) c.if-bytes-start.true

pub returns-then-kind-lt1 : goal.returns-then-kind-lt1
returns-then-kind-lt1 c =
    check_kind_lem _ _ _ _ _ (known c.read_u32_le_at.ensures (c.ok_or.ensures.ok_part ∙ ap result_ok c.in_ok-size.was)) (known c.read_u16_le_at.ensures (c.ok_or-2.ensures.ok_part ∙ ap result_ok c.in_ok-kind.was))
    (⊎_elim (λ l. kind_low _ _ _ _ l) (λ h. kind_high _ _ _ _ h.1) c.then-kind-lt1.either)
    c.if-bytes-start.false

pub returns-then-kind-last : goal.returns-then-kind-last
returns-then-kind-last c =
    check_kind_lem _ _ _ _ _ (known c.read_u32_le_at.ensures (c.ok_or.ensures.ok_part ∙ ap result_ok c.in_ok-size.was)) (known c.read_u16_le_at.ensures (c.ok_or-2.ensures.ok_part ∙ ap result_ok c.in_ok-kind.was))
    (kind_not_above _ _ _ _ c.if-kind-lt1.false c.if-kind-gt5.false c.if-kind-last.true)
    c.if-bytes-start.false

pub overflow_add-result : goal.overflow_add-result
overflow_add-result c = omega (arith, little_within 2 _ _ _ (known c.read_u16_le_at.ensures (c.ok_or-2.ensures.ok_part ∙ ap result_ok c.in_ok-kind.was)))

pub returns-then-body_fits : goal.returns-then-body_fits
returns-then-body_fits c =
    check_kind_lem _ _ _ _ _ (known c.read_u32_le_at.ensures (c.ok_or.ensures.ok_part ∙ ap result_ok c.in_ok-size.was)) (known c.read_u16_le_at.ensures (c.ok_or-2.ensures.ok_part ∙ ap result_ok c.in_ok-kind.was))
    (kind_kept _ _ _ _ c.if-kind-lt1.false c.if-kind-gt5.false c.if-kind-last.false (sym c.body_fits.ensures ∙ c.if-body_fits.true))
    c.if-bytes-start.false

pub returns-then-kind-eq-SEGMENTS : goal.returns-then-kind-eq-SEGMENTS
returns-then-kind-eq-SEGMENTS c =
    check_kind_lem _ _ _ _ _ (known c.read_u32_le_at.ensures (c.ok_or.ensures.ok_part ∙ ap result_ok c.in_ok-size.was)) (known c.read_u16_le_at.ensures (c.ok_or-2.ensures.ok_part ∙ ap result_ok c.in_ok-kind.was))
    (kind_segments _ _ _ _ c.if-kind-lt1.false c.if-kind-gt5.false c.if-kind-last.false c.if-kind-eq-SEGMENTS.true (sym c.body_fits.ensures ∙ c.if-body_fits.false))
    c.if-bytes-start.false

pub returns-else-kind-eq-SEGMENTS : goal.returns-else-kind-eq-SEGMENTS
returns-else-kind-eq-SEGMENTS c =
    check_kind_lem _ _ _ _ _ (known c.read_u32_le_at.ensures (c.ok_or.ensures.ok_part ∙ ap result_ok c.in_ok-size.was)) (known c.read_u16_le_at.ensures (c.ok_or-2.ensures.ok_part ∙ ap result_ok c.in_ok-kind.was))
    (kind_led _ _ _ _ c.if-kind-lt1.false c.if-kind-gt5.false c.if-kind-last.false c.if-kind-eq-SEGMENTS.false (sym c.body_fits.ensures ∙ c.if-body_fits.false))
    c.if-bytes-start.false
