-- `bundle_parts::accepted::accept_bundle` meets its contract: the numbers stand at the start of their list.
use Rattle.std.proofs.Common.{replicate, ap, rules, ◌∙◌}
use Rattle.util.proofs.AnswersLaws.{told}
use Rattle.refusal.specs.Refusal.{outcome}
use Rattle.refusal.specs.Guarded.{fault, fault_of}
use Rattle.bundle_parts.specs.Parts.{segment_numbers_most}
use Rattle.bundle_parts.proofs.PartsLaws.{start_lent}
use Rattle.bundle_parts.proofs.AcceptedLaws.{accept_broken, accept_opened, accept_refused}
use Rattle.bundle_parts.proofs.accepted.accept_bundle.Goals as goal

pub returns-in_err-layout : goal.returns-in_err-layout
returns-in_err-layout c =
    let broken = accept_broken _ _ (told outcome c.open_bundle.ensures c.in_err-layout.was) in
    search rules

pub returns-in_err-find_fault : goal.returns-in_err-find_fault
returns-in_err-find_fault c =
    let n = c.segment_numbers-count in
    let refused = accept_refused _ _ (told outcome c.open_bundle.ensures c.in_ok-layout.was) _
    (told fault_of c.find_fault.ensures c.in_err-find_fault.was ∙ ap fault (start_lent _ (replicate segment_numbers_most 0) n.new.out n.result n.ensures.value n.ensures.out_after)) in
    search rules

pub returns : goal.returns
returns c =
    let n = c.segment_numbers-count in
    accept_opened _ _ (told outcome c.open_bundle.ensures c.in_ok-layout.was)
    (told fault_of c.find_fault.ensures c.in_ok-find_fault.was ∙ ap fault (start_lent _ (replicate segment_numbers_most 0) n.new.out n.result n.ensures.value n.ensures.out_after))
