-- `qualified_name::name::qualified_name_near` meets its contract: the hops, and then the row's own name.
use native.Mathlib.Omega.{arith}
use Rattle.std.proofs.Common.{ap, sym, ◌∙◌, Err}
use Rattle.std.proofs.lemmas.Result.{err_from_is_err_and}
use lib.ListN.{length}
use Rattle.util.proofs.AnswersLaws.{told}
use Rattle.util.proofs.BufferLaws.{put_fits}
use Rattle.refusal.specs.Refusal.{mapped, outcome}
use Rattle.qualified_name.proofs.NameLaws.{filled_as, hops_written, name_written, name_refused, name_kept, name_filled}
use borrow.Author.Rules.{rules}
use Rattle.qualified_name.proofs.name.qualified_name_near.Goals as goal

pub put-requires : goal.put-requires
put-requires c = search rules

pub returns : goal.returns
returns c =
    let own = c.part-own.ensures in
    let f = told outcome c.write_hops.ensures.result_value c.in_ok-at.was in
    let w = hops_written _ _ _ _ _ _ _ f in
    let u = put_fits _ _ _ _ _ c.put.ensures.value c.put.ensures.buffer_after (omega (arith, c.write_hops.auto)) in (record {
      result_value = name_written _ _ _ _ own _ _ _ f w.0 u.ends;
      buffer_after = name_filled _ _ _ _ own _ _ _ _ _ _ f (filled_as _ _ _ _ _ c.write_hops.ensures.buffer_after (ap outcome c.in_ok-at.was)) w.0 u (omega arith);
    })

pub returns-in_err-at : goal.returns-in_err-at
returns-in_err-at c =
    let own = c.part-own.ensures in
    let f = told outcome c.write_hops.ensures.result_value c.in_err-at.was in
    let p = err_from_is_err_and c.from_residual.result c.from_residual.ensures.1 in
    let r = ap outcome (p.1 ∙ ap Err p.2) in (record {
      result_value = r ∙ sym (ap (mapped length) (name_refused _ _ _ _ own _ _ f));
      buffer_after = name_kept _ _ _ _ own _ _ _ _ _ _ f c.write_hops.ensures.buffer_after (ap outcome c.in_err-at.was);
    })
