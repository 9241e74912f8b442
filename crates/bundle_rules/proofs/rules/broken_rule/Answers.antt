use Rattle.std.proofs.Common.{◌≡◌, Bool, true, false, arith, sym, ◌∙◌}
use borrow.Author.Tests.{eqb-true, eqb-false}
use Rattle.util.proofs.AnswersLaws.{known}
use Rattle.bundle_rules.proofs.RuleLaws.{too_long_whole, walked_none, walked_breaks, walked_seen, walked_whole, walked_empty, walked_missing, kept_by_check}
use Rattle.bundle_rules.proofs.rules.broken_rule.Goals as goal
use Rattle.bundle_rules.proofs.rules.broken_rule.Goals.{then-image, else-image}

pub returns-then-bytes-gt-BUNDLE_BYTES : goal.returns-then-bytes-gt-BUNDLE_BYTES
returns-then-bytes-gt-BUNDLE_BYTES c = too_long_whole _ (omega arith)

pub loop-at-init : goal.loop-at-init
loop-at-init c = walked_none _ (omega arith)

pub returns-in-Err : goal.returns-in-Err
returns-in-Err c = walked_breaks _ _ _ _ _ c.loop-at.invariant (omega arith) (known c.check_record.ensures c.in-Err.is)

pub loop-at-smaller : goal.loop-at-smaller
loop-at-smaller c = omega (arith, (kept_by_check _ _ _ _ _ (known c.check_record.ensures c.in-Ok.is)).next)

pub loop-at-preserved : goal.loop-at-preserved
loop-at-preserved c = walked_seen _ _ _ _ _ _ c.loop-at.invariant (omega arith) (known c.check_record.ensures c.in-Ok.is)

pub returns-then-is_empty : goal.returns-then-is_empty
returns-then-is_empty c =
    let walked = c.loop-at.invariant in
    elim c.if-image.branch [
      | then-image w ↦ walked_whole _ _ _ _ walked (omega arith) w.if-image.true
      | else-image w ↦ walked_empty _ _ _ _ walked (eqb-true _ _ (sym w.is_empty.ensures ∙ sym w.value-is ∙ c.if-is_empty.true))
    ]

pub returns-else-is_empty : goal.returns-else-is_empty
returns-else-is_empty c =
    elim c.if-image.branch [
      | then-image w ↦ let z : ◌≡◌ {A = Bool} false true = sym c.if-is_empty.false ∙ w.value-is ∙ w.if-image.true in cc
      | else-image w ↦ walked_missing _ _ _ _ c.loop-at.invariant (omega arith) w.if-image.false (eqb-false _ _ (sym w.is_empty.ensures ∙ sym w.value-is ∙ c.if-is_empty.false))
    ]
