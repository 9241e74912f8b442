-- `qualified_name::name::collect` meets its contract. The invariant: the contexts that were read are a block. The measure is how many are allowed yet.
use mathlib.Core.Path.{◌≡◌}
use lib.ListN.{length}
use Rattle.runtime.specs.Runtime.{tried}
use Rattle.qualified_name.specs.Walk.{Block}
use Rattle.qualified_name.proofs.name.collect.Given as goal

abbrev pub invariant-loop-count : goal.invariant-loop-count
invariant-loop-count l =
    (length l.names ≡ 8) × Block l.rt.image.now (tried l.rt) l.left l.descriptor_va l.rest l.names l.count l.allowed l.next l.room

abbrev pub decreases-loop-count : goal.decreases-loop-count
decreases-loop-count l = l.allowed
