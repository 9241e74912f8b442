-- `util::pointer::relative_address` meets its contract.
use Rattle.std.proofs.Common.{ap, ◌∙◌, to_z-of_z}
use Rattle.util.specs.Pointer.{relative_pointer}
use Rattle.util.proofs.PointerLaws.{zero_offset, other_offset, null_address, address_at}
use Rattle.util.proofs.pointer.relative_address.Goals as goal

pub returns-then-offset-eq0 : goal.returns-then-offset-eq0
returns-then-offset-eq0 c = null_address _ _ (zero_offset _ c.ranges.offset c.if-offset-eq0.true)

pub returns-else-offset-eq0 : goal.returns-else-offset-eq0
returns-else-offset-eq0 c = address_at _ _ _ (other_offset _ c.if-offset-eq0.false) (c.relative_pointer.ensures ∙ ap (relative_pointer _) (to_z-of_z c.ranges.offset))
