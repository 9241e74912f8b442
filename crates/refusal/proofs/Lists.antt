-- The lists of docs/SPECIFICATION.md, "Refusals", worked out by computing, and which segment it is that wraps.
use Rattle.std.specs.Prelude.{◌-◌, ◌^◌, ◌≡◌, refl, [], ◌∷◌, Some, None}
use Rattle.segment.specs.Segments.{segments_of}
use Rattle.refusal.specs.Guarded.{any_wrapping, fault, first_wrapping}

pub record ListsWorked : Type 0 where
  pub none_at_all : fault [] ≡ None
  pub one : fault (0x1000 ∷ 33 ∷ 0 ∷ 33 ∷ []) ≡ None
  pub ends_below : fault ((2 ^ 64 - 17) ∷ 16 ∷ 0 ∷ 16 ∷ []) ≡ None
  pub no_address : fault ((2 ^ 64 - 1) ∷ 0 ∷ 0 ∷ 16 ∷ []) ≡ None
  pub file_offsets_only : fault (0 ∷ 16 ∷ (2 ^ 64 - 1) ∷ 16 ∷ []) ≡ None
  pub ends_there : fault ((2 ^ 64 - 16) ∷ 16 ∷ 0 ∷ 16 ∷ []) ≡ Some 9
  pub last : fault (0x1000 ∷ 33 ∷ 0 ∷ 33 ∷ (2 ^ 64 - 1) ∷ (2 ^ 64 - 1) ∷ 0 ∷ 0 ∷ []) ≡ Some 9
  pub three : fault ((2 ^ 64 - 16) ∷ 16 ∷ 0 ∷ []) ≡ Some 1
  pub five : fault ((2 ^ 64 - 16) ∷ 16 ∷ 0 ∷ 16 ∷ 0x1000 ∷ []) ≡ Some 1
  pub told_first : first_wrapping 0 (segments_of ((2 ^ 64 - 16) ∷ 16 ∷ 0 ∷ 16 ∷ (2 ^ 64 - 1) ∷ 1 ∷ 0 ∷ 0 ∷ [])) ≡ Some 0
  pub told_last : first_wrapping 0 (segments_of (0x1000 ∷ 33 ∷ 0 ∷ 33 ∷ (2 ^ 64 - 1) ∷ (2 ^ 64 - 1) ∷ 0 ∷ 0 ∷ [])) ≡ Some 1

pub lists_worked : ListsWorked
unfolding fault any_wrapping first_wrapping segments_of
lists_worked =
    record {
      none_at_all = refl;
      one = refl;
      ends_below = refl;
      no_address = refl;
      file_offsets_only = refl;
      ends_there = refl;
      last = refl;
      three = refl;
      five = refl;
      told_first = refl;
      told_last = refl;
    }
