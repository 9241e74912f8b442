-- `refusal::find_fault` meets its contract.
use Rattle.std.proofs.Common.{sym, ◌∙◌}
use borrow.Author.Tests.{eqb-true, eqb-false}
use Rattle.refusal.proofs.GuardedLaws.{ragged, some_counted, none_counted}
use Rattle.refusal.proofs.find_fault.Goals as goal

pub returns-then-not-is_empty : goal.returns-then-not-is_empty
returns-then-not-is_empty c =
    ragged _ (λ z. eqb-false _ _ (sym c.is_empty.ensures ∙ c.if-not-is_empty.true) (c.as_chunks.ensures.back_len ∙ z))

pub returns-then-count_wrapping-ne0 : goal.returns-then-count_wrapping-ne0
returns-then-count_wrapping-ne0 c =
    some_counted _ _ _ c.as_chunks.ensures.front c.count_wrapping.ensures
    (sym c.as_chunks.ensures.back_len ∙ eqb-true _ _ (sym c.is_empty.ensures ∙ c.if-not-is_empty.false)) c.if-count_wrapping-ne0.true

pub returns : goal.returns
returns c =
    none_counted _ _ _ c.as_chunks.ensures.front c.count_wrapping.ensures
    (sym c.as_chunks.ensures.back_len ∙ eqb-true _ _ (sym c.is_empty.ensures ∙ c.if-not-is_empty.false)) c.if-count_wrapping-ne0.false
