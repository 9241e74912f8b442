-- Bundles of a few bytes, worked out by computing: one of no bytes is opened with nothing in it and has an empty listing, as one of an empty
-- image has; one or two bytes, and one record of another kind, are refused with 2 alone.
use Rattle.std.specs.Prelude.{ℕ, ◌≡◌, refl, List, [], ◌∷◌, ◌++◌}
use Rattle.util.specs.Letters.{letters}
use Rattle.util.specs.LittleEndian.{little_endian}
use Rattle.util.specs.Cstr.{place, part_of}
use Rattle.segment.specs.Segments.{segments_of}
use Rattle.refusal.specs.Refusal.{answered}
use Rattle.refusal.specs.Guarded.{any_wrapping, fault, guarded}
use Rattle.typedescriptor.specs.Slots.{rows_from, rows}
use Rattle.bundle.specs.Bundle.{body_fits, section_in}
use Rattle.bundle.specs.Open.{is_at, taken_at, answer, open_bundle}
use Rattle.bundle.specs.declared.open.Section.{Section}
use Rattle.bundle_parts.specs.Parts.{numbers}
use Rattle.bundle_parts.specs.Accepted.{accept_bundle}
use Rattle.type_lines.specs.Digits.{digit, decimal}
use Rattle.type_lines.specs.Lines.{refused_text, end_line, lines}
use Rattle.bundle_lines.specs.Printed.{printed}

-- a record with a body of 8 bytes 0: an image; or types, fields or strings at address 0, and nothing in them
abbrev eight : ℕ → List ℕ
eight kind = 8 ∷ 0 ∷ 0 ∷ 0 ∷ kind ∷ 0 ∷ 0 ∷ 0 ∷ 0 ∷ 0 ∷ 0 ∷ 0 ∷ 0 ∷ 0 ∷ []

-- a record of a kind without a body
abbrev bare : ℕ → List ℕ
bare kind = 0 ∷ 0 ∷ 0 ∷ 0 ∷ kind ∷ 0 ∷ []

abbrev missing : Section
missing = record { address = 0; part = place 0 0 }

abbrev end_zero : List (List ℕ)
end_zero = (letters "end 0" ++ 10 ∷ []) ∷ []

abbrev refused_two : List (List ℕ)
refused_two = (letters "refused 2" ++ 10 ∷ []) ∷ []

pub record EmptyWorked : Type 0 where
  pub nothing_in_it : accept_bundle [] ≡ answered (record { image = place 0 0; segments = place 0 0; types = missing; fields = missing; strings = missing })
  pub no_bytes : printed [] ≡ end_zero
  pub one_byte : printed (0 ∷ []) ≡ refused_two
  pub two_bytes : printed (0 ∷ 0 ∷ []) ≡ refused_two
  pub empty_image : printed (bare 1) ≡ end_zero
  pub image_alone : printed (eight 1) ≡ end_zero
  pub segments_alone : printed (bare 2) ≡ refused_two
  pub types_alone : printed (eight 3) ≡ refused_two
  pub fields_alone : printed (eight 4) ≡ refused_two
  pub strings_alone : printed (eight 5) ≡ refused_two

pub empty_worked : EmptyWorked
unfolding printed accept_bundle guarded fault any_wrapping segments_of open_bundle answer taken_at is_at body_fits section_in little_endian part_of numbers lines refused_text end_line digit decimal rows_from rows
empty_worked =
    record {
      nothing_in_it = refl;
      no_bytes = refl;
      one_byte = refl;
      two_bytes = refl;
      empty_image = refl;
      image_alone = refl;
      segments_alone = refl;
      types_alone = refl;
      fields_alone = refl;
      strings_alone = refl;
    }
