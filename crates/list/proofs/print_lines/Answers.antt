use Rattle.std.specs.Prelude.{ℕ, ◌≡◌, List, Result, Ok, Err}
use Rattle.std.proofs.Common.{sym, ap, arith, ◌∙◌}
use Rattle.refusal.specs.Refusal.{answered, refused, refusal_number, mapped, outcome}
use Rattle.refusal.specs.declared.Refusal.{Refusal}
use Rattle.refusal.specs.Guarded.{guarded}
use Rattle.refusal.proofs.GuardedLaws.{answered_is, never_refused}
use Rattle.bundle_lines.proofs.PrintedLaws.{step_part}
use Rattle.bundle_lines.proofs.PrintsLaws.{going_start, lines_going_on, going_end, going_full}
use Rattle.list.proofs.print_lines.Goals as goal
use Rattle.list.proofs.print_lines.Goals.{then-is_ok, else-is_ok}

-- what the call answered, and that it refused nothing
module _ {A B : Type 0} (f : A → B) (segments : List ℕ) (x : B) (r : Result A Refusal) (e : mapped f (outcome r) ≡ guarded segments (answered x)) where
  told : {o : A} → r ≡ Ok o → f o ≡ x
  told t = answered_is segments x _ (sym (ap (λ (r : Result A Refusal). mapped f (outcome r)) t) ∙ e)

  unrefused : {n : Refusal} → r ≡ Err n → refused (refusal_number n) ≡ guarded segments (answered x)
  unrefused t = sym (ap (λ (r : Result A Refusal). mapped f (outcome r)) t) ∙ e

pub loop-lines-init : goal.loop-lines-init
loop-lines-init c = going_start _ _ _

pub write_line-all-requires : goal.write_line-all-requires
write_line-all-requires c = step_part _ _ _ _ _ _ _ (told _ _ _ _ c.next_line.ensures.result_after (c.in-Ok-Some.is ∙ ap Ok c.in-Ok-Some.field-0-is)) c.line_part.ensures

pub loop-lines-preserved : goal.loop-lines-preserved
loop-lines-preserved c =
    let on = lines_going_on _ _ _ _ _ _ c.loop-lines.invariant (sym (told _ _ _ _ c.next_line.ensures.result_after (c.in-Ok-Some.is ∙ ap Ok c.in-Ok-Some.field-0-is))) (omega arith) in
    elim c.if-is_ok.branch [ then-is_ok w ↦ rw w.left-is on | else-is_ok w ↦ rw w.left-is on ]

pub returns-in-Ok-None : goal.returns-in-Ok-None
returns-in-Ok-None c = going_end _ _ _ _ _ c.loop-lines.invariant (sym (told _ _ _ _ c.next_line.ensures.result_after (c.in-Ok-None.is ∙ ap Ok c.in-Ok-None.field-0-is)))

pub returns-in-Err : goal.returns-in-Err
returns-in-Err c = absurd (never_refused _ _ _ (unrefused _ _ _ _ c.next_line.ensures.result_after c.in-Err.is) c.requires)

pub returns : goal.returns
returns c =
    let full : 16385 ≡ c.loop-lines.lines = omega arith in
    full ∙ going_full _ _ _ _ _ c.loop-lines.invariant (omega arith)
