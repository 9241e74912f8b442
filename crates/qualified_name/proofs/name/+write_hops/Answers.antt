-- `qualified_name::name::write_hops` meets its contract. It calls itself with fewer contexts allowed, so its measure is `left`.
use native.Mathlib.Omega.{arith}
use Rattle.std.proofs.Common.{ap, sym, ◌∙◌, Ok, Err}
use Rattle.std.proofs.lemmas.Result.{err_from_is_err_and}
use Rattle.parent.proofs.ContextLaws.{zero_header, no_context}
use Rattle.util.proofs.AnswersLaws.{told, case}
use Rattle.refusal.specs.Refusal.{outcome, refused, refusal_number}
use Rattle.qualified_name.specs.Walk.{Walked}
use Rattle.qualified_name.proofs.NameLaws.{kept, filled_as, refused_as, hops_written}
use Rattle.qualified_name.proofs.WalkLaws.{walk_deep, last_long, last_fits, last_written, last_filled, none_long, none_written, none_filled, further_fits, further_written, further_refused, further_filled}
use Rattle.qualified_name.proofs.name.+write_hops.Goals as goal

pub returns-then-buffer-rest : goal.returns-then-buffer-rest
returns-then-buffer-rest t c =
    let e = no_context _ _ _ (zero_header _ _ _ c.if-descriptor_va-eq0.true) in
    (record { result_value = none_long _ _ _ _ e _ _ (omega arith) (omega arith) (omega (arith, c.well_formed)); buffer_after = kept _ _ _ })

pub returns-then-descriptor_va-eq0 : goal.returns-then-descriptor_va-eq0
returns-then-descriptor_va-eq0 t c =
    let e = no_context _ _ _ (zero_header _ _ _ c.if-descriptor_va-eq0.true) in
    (record { result_value = none_written _ _ _ _ e _ _ (omega arith) (omega (arith, c.well_formed)); buffer_after = none_filled _ _ _ _ e _ })

pub returns-then-buffer-room : goal.returns-then-buffer-room
returns-then-buffer-room t c =
    let w = case (Walked _ _ _ _ _ _) c.collect.ensures (c.in_ok-walk.was ∙ ap Ok c.in-Ended.is) in (record {
      result_value = last_long _ _ _ _ _ _ _ _ w _ (omega arith) (omega (arith, c.well_formed));
      buffer_after = kept _ _ _;
    })

pub put_hops-requires : goal.put_hops-requires
put_hops-requires t c =
    let w = case (Walked _ _ _ _ _ _) c.collect.ensures (c.in_ok-walk.was ∙ ap Ok c.in-Ended.is) in (record {
      count_in_bounds = omega (arith, w.few);
      count_in_bounds_2 = omega (arith, last_fits _ _ _ _ _ _ _ _ w _ c.if-buffer-room.false (omega (arith, c.well_formed)));
    })

pub write_hops-requires : goal.write_hops-requires
write_hops-requires t c =
    let w = case (Walked _ _ _ _ _ _) c.collect.ensures (c.in_ok-walk.was ∙ ap Ok c.in-Full.is) in
    (omega (arith, w.fewer), tt)

pub put_hops-requires-in-Full : goal.put_hops-requires-in-Full
put_hops-requires-in-Full t c =
    let w = case (Walked _ _ _ _ _ _) c.collect.ensures (c.in_ok-walk.was ∙ ap Ok c.in-Full.is) in (record {
      count_in_bounds = omega arith;
      count_in_bounds_2 = omega (
        arith,
        further_fits _ _ _ _ _ _ _ _ _ _ w _ _ (told outcome c.write_hops.ensures.result_value c.in_ok-at-in-Full.was) (omega (arith, c.well_formed)),
        c.write_hops.auto,
      );
    })

pub returns-else-buffer-room : goal.returns-else-buffer-room
returns-else-buffer-room t c =
    let w = case (Walked _ _ _ _ _ _) c.collect.ensures (c.in_ok-walk.was ∙ ap Ok c.in-Ended.is) in (record {
      result_value = last_written _ _ _ _ _ _ _ _ w _ _ c.put_hops.ensures.ends c.if-buffer-room.false (omega (arith, c.well_formed));
      buffer_after = last_filled _ _ _ _ _ _ _ _ w _ _ _ c.put_hops.ensures;
    })

pub returns-in_ok-at-in-Full : goal.returns-in_ok-at-in-Full
returns-in_ok-at-in-Full t c =
    let w = case (Walked _ _ _ _ _ _) c.collect.ensures (c.in_ok-walk.was ∙ ap Ok c.in-Full.is) in
    let f = told outcome c.write_hops.ensures.result_value c.in_ok-at-in-Full.was in
    let h = hops_written _ _ _ _ _ _ _ f in (record {
      result_value = further_written _ _ _ _ _ _ _ _ _ _ w _ _ _ f c.put_hops-in-Full.ensures.ends (omega (arith, c.well_formed));
      buffer_after = further_filled _ _ _ _ _ _ _ _ _ _ w _ _ _ _ _ (filled_as _ _ _ _ _ c.write_hops.ensures.buffer_after (ap outcome c.in_ok-at-in-Full.was)) h.0 c.put_hops-in-Full.ensures (omega (arith, h.1));
    })

pub returns-in_err-at-in-Full : goal.returns-in_err-at-in-Full
returns-in_err-at-in-Full t c =
    let w = case (Walked _ _ _ _ _ _) c.collect.ensures (c.in_ok-walk.was ∙ ap Ok c.in-Full.is) in
    let p = err_from_is_err_and c.from_residual-in_err-at-in-Full.result c.from_residual-in_err-at-in-Full.ensures.1 in
    let r = ap outcome (p.1 ∙ ap Err p.2) in (record {
      result_value = r ∙ further_refused _ _ _ _ _ _ _ _ _ _ w _ _ (told outcome c.write_hops.ensures.result_value c.in_err-at-in-Full.was) (omega (arith, c.well_formed));
      buffer_after = filled_as _ _ _ _ _ (refused_as _ _ _ _ _ _ c.write_hops.ensures.buffer_after (ap outcome c.in_err-at-in-Full.was)) (sym r);
    })

pub returns-in_err-walk : goal.returns-in_err-walk
returns-in_err-walk t c =
    let w = case (Walked _ _ _ _ _ _) c.collect.ensures c.in_err-walk.was in
    let p = err_from_is_err_and c.from_residual.result c.from_residual.ensures.1 in
    let r = ap outcome (p.1 ∙ ap Err p.2) in (record {
      result_value = r ∙ ap (λ x. refused (refusal_number x)) w.0 ∙ walk_deep _ _ _ _ _ _ w.1;
      buffer_after = filled_as _ _ _ _ _ (kept _ _ _) (sym r);
    })
