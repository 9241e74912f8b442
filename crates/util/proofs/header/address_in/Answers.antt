-- `util::header::address_in` meets its contract.
use Rattle.std.proofs.Common.{ap, ◌∙◌, to_z-of_z, w32}
use Rattle.util.specs.Pointer.{relative_address}
use Rattle.util.proofs.header.address_in.Goals as goal

pub returns : goal.returns
returns c =
    c.relative_address.ensures ∙ ap (relative_address _) (to_z-of_z {w = w32} (record { sfits = c.i32_at.type_inv }) ∙ c.i32_at.ensures)
