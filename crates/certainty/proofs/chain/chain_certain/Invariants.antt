-- `certainty::chain::chain_certain` meets its contract. The invariant: what is certain of the whole chain is that of the contexts that are left.
use Rattle.std.proofs.Common.{◌≡◌, ◌-◌}
use Rattle.runtime.specs.Runtime.{tried}
use Rattle.parent.specs.Chain.{contexts_most}
use Rattle.certainty.specs.JoinedName.{chain_certain}
use Rattle.certainty.proofs.chain.chain_certain.Given as goal

abbrev pub invariant-loop : goal.invariant-loop
invariant-loop l =
    chain_certain l.rt.image.now (tried l.rt) contexts_most l.parent_va ≡ chain_certain l.rt.image.now (tried l.rt) (contexts_most - l.counter) l.next
