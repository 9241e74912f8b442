-- `util::header::pointer_in` meets its contract.
use Rattle.std.proofs.Common.{ap, ◌∙◌, to_z-of_z, w32}
use Rattle.util.specs.Pointer.{relative_pointer}
use Rattle.util.proofs.header.pointer_in.Goals as goal

pub returns : goal.returns
returns c =
    c.relative_pointer.ensures ∙ ap (relative_pointer _) (to_z-of_z {w = w32} (record { sfits = c.i32_at.type_inv }) ∙ c.i32_at.ensures)
