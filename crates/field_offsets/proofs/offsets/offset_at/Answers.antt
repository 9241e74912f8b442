-- `field_offsets::offsets::offset_at` meets its contract: each `return` is a case of `offset_in`.
use native.Mathlib.Omega.{arith}
use Rattle.field_offsets.proofs.OffsetsLaws.{no_offset, number_at}
use Rattle.field_offsets.proofs.offsets.offset_at.Goals as goal
use Rattle.field_offsets.proofs.offsets.offset_at.Goals.{then-count-number-via-then-count-number, then-count-number-via-else-count-number+then-image-place, then-count-number-via-else-count-number+else-image-place+then-image-place-2}

pub returns-then-count-number : goal.returns-then-count-number
returns-then-count-number c =
    no_offset _ _ _ _
    (λ l m. elim c.then-count-number.branch [
      | then-count-number-via-then-count-number w ↦ omega arith
      | then-count-number-via-else-count-number+then-image-place w ↦ omega arith
      | then-count-number-via-else-count-number+else-image-place+then-image-place-2 w ↦ omega arith
    ])

pub returns : goal.returns
returns c = number_at _ _ _ _ (omega arith) (omega arith) _ c.read_u32_le_at.ensures
