use mathlib.Core.Path.{refl, sym, ◌∙◌}
use native.Mathlib.Omega.{arith}
use Rattle.util.proofs.AnswersLaws.{told}
use Rattle.parent.specs.Context.{header_of}
use Rattle.certainty.proofs.ReadLaws.{chain_last, chain_open, chain_more, chain_end}
use Rattle.certainty.proofs.chain.chain_certain.Goals as goal

pub loop-init : goal.loop-init
loop-init c = refl

pub returns-then-not-context_name_certain : goal.returns-then-not-context_name_certain
returns-then-not-context_name_certain c =
    sym (c.loop.invariant ∙ chain_open _ _ _ _ _ (told (header_of _) c.read_header.ensures c.in-Some.is) (omega arith) (sym c.context_name_certain.ensures ∙ c.if-not-context_name_certain.true))

pub loop-preserved : goal.loop-preserved
loop-preserved c =
    c.loop.invariant ∙ chain_more _ _ _ _ _ (told (header_of _) c.read_header.ensures c.in-Some.is) _ c.loop-test.true refl (sym c.context_name_certain.ensures ∙ c.if-not-context_name_certain.false)

pub returns-in_default : goal.returns-in_default
returns-in_default c =
    c.header_certain.ensures ∙ sym (c.loop.invariant ∙ chain_last _ _ _ _ (told (header_of _) c.read_header.ensures c.in_default.is))

pub returns : goal.returns
returns c = c.header_certain-2.ensures ∙ sym (c.loop.invariant ∙ chain_end _ _ _ _ (omega arith))
