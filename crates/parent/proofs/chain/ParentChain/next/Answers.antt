-- `parent::chain::ParentChain::next` meets its contract.
use Rattle.std.proofs.Common.{ap, ◌∙◌, arith}
use Rattle.util.proofs.AnswersLaws.{told}
use Rattle.parent.specs.Context.{context_of}
use Rattle.parent.specs.Chain.{parent_step_of}
use Rattle.parent.proofs.ContextLaws.{chain_full, chain_ends, chain_goes_on}
use Rattle.parent.proofs.chain.ParentChain.next.Goals as goal

pub returns-then-given-ge-CONTEXTS : goal.returns-then-given-ge-CONTEXTS
returns-then-given-ge-CONTEXTS c = chain_full _ _ _ _ (omega arith)

pub returns : goal.returns
returns c = chain_goes_on _ _ _ _ _ (told (context_of _) c.read_context.ensures c.in_ok-context.was) (omega arith)

pub returns-in_err-context : goal.returns-in_err-context
returns-in_err-context c =
    ap (parent_step_of c.args.rt.now.image.now) c.from_residual.ensures ∙ chain_ends _ _ _ _ (told (context_of _) c.read_context.ensures c.in_err-context.was) (omega arith)
