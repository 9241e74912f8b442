-- `certainty::reads::text_certain` meets its contract: each `return` is a case of `lookup`.
use mathlib.Core.Path.{sym, ◌∙◌}
use Rattle.util.proofs.AnswersLaws.{known}
use Rattle.certainty.proofs.ReadLaws.{nul_within, nul_tested, zero_text, nowhere_text, text_there}
use Rattle.certainty.proofs.reads.text_certain.Goals as goal

pub returns-then-vmaddr-eq0 : goal.returns-then-vmaddr-eq0
returns-then-vmaddr-eq0 c = sym (zero_text _ _ _ c.if-vmaddr-eq0.true)

pub returns-then-place-image : goal.returns-then-place-image
returns-then-place-image c =
    nul_within c.args.rt.now.image.now _ _ c.contains.ensures.value ∙ sym (text_there _ _ _ _ c.if-vmaddr-eq0.false (known c.vm_to_file_offset_near.ensures c.in-Some.is))

pub returns-else-place-image : goal.returns-else-place-image
returns-else-place-image c =
    nul_tested c.args.rt.now.image.now _ c.if-place-image.false ∙ sym (text_there _ _ _ _ c.if-vmaddr-eq0.false (known c.vm_to_file_offset_near.ensures c.in-Some.is))

pub returns-in-None : goal.returns-in-None
returns-in-None c = sym (nowhere_text _ _ _ c.if-vmaddr-eq0.false (known c.vm_to_file_offset_near.ensures c.in-None.is))
