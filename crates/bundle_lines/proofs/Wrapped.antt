-- Two bundles of 44 bytes, an empty image and one segment of 16 addresses, worked out by computing: the one that ends at 2^64 is refused with
-- 9 alone, and the one that ends a byte below has no rows.
use Rattle.std.specs.Prelude.{ℕ, ◌≡◌, refl, List, [], ◌∷◌, ◌++◌}
use Rattle.util.specs.Letters.{letters}
use Rattle.util.specs.LittleEndian.{little_endian}
use Rattle.util.specs.Cstr.{part_of}
use Rattle.segment.specs.Segments.{segments_of}
use Rattle.refusal.specs.Guarded.{any_wrapping, fault, guarded}
use Rattle.typedescriptor.specs.Slots.{rows_from, rows}
use Rattle.bundle.specs.Bundle.{body_fits, section_in}
use Rattle.bundle.specs.Open.{is_at, taken_at, answer, open_bundle}
use Rattle.bundle_parts.specs.Parts.{numbers}
use Rattle.bundle_parts.specs.Accepted.{accept_bundle}
use Rattle.type_lines.specs.Digits.{digit, decimal}
use Rattle.type_lines.specs.Lines.{refused_text, end_line, lines}
use Rattle.bundle_lines.specs.Printed.{printed}

-- the segment's first address has `n` for its lowest byte, and 0xff for the others
abbrev one_segment : ℕ → List ℕ
one_segment n =
    0 ∷ 0 ∷ 0 ∷ 0 ∷ 1 ∷ 0 ∷ 32 ∷ 0 ∷ 0 ∷ 0 ∷ 2 ∷ 0 ∷
    n ∷ 0xff ∷ 0xff ∷ 0xff ∷ 0xff ∷ 0xff ∷ 0xff ∷ 0xff ∷ 16 ∷ 0 ∷ 0 ∷ 0 ∷ 0 ∷ 0 ∷ 0 ∷ 0 ∷
    0 ∷ 0 ∷ 0 ∷ 0 ∷ 0 ∷ 0 ∷ 0 ∷ 0 ∷ 0 ∷ 0 ∷ 0 ∷ 0 ∷ 0 ∷ 0 ∷ 0 ∷ 0 ∷ []

pub record WrappedWorked : Type 0 where
  pub at_2_64 : printed (one_segment 0xf0) ≡ (letters "refused 9" ++ 10 ∷ []) ∷ []
  pub below : printed (one_segment 0xef) ≡ (letters "end 0" ++ 10 ∷ []) ∷ []

pub wrapped_worked : WrappedWorked
unfolding printed accept_bundle guarded fault any_wrapping segments_of open_bundle answer taken_at is_at body_fits section_in little_endian part_of numbers lines refused_text end_line digit decimal rows_from rows
wrapped_worked = record { at_2_64 = refl; below = refl }
