-- `util::pointer::relative_pointer` meets its contract: both ways round are the sum modulo 2^64.
use Rattle.std.proofs.Common.{ℤ, ap, ◌∙◌, ◌+◌, ◌%◌, ◌^◌, of_z, w64, to_z-of_z, arith}
use Rattle.util.proofs.PointerLaws.{pointer_sum}
use Rattle.util.proofs.pointer.relative_pointer.Goals as goal

pub returns : goal.returns
returns c =
    pointer_sum _ _ _ (omega arith) c.ranges.offset
    (c.wrapping_add_signed.ensures
    ∙ ap (λ (z : ℤ). (c.args.base_va + of_z w64 z) % 2 ^ 64) (to_z-of_z {w = w64} (record { sfits = c.from.type_inv }) ∙ c.from.ensures ∙ to_z-of_z c.ranges.offset))
