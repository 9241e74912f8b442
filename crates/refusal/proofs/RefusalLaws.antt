-- Each refusal has a number of its own.
use Rattle.std.specs.Prelude.{ℕ, ◌≡◌, refl, List, [], ◌∷◌, map, cond, eqb, Option, Some, None}
use Rattle.refusal.specs.Refusal.{refusal_number}
use Rattle.refusal.specs.declared.Refusal.{Refusal}

abbrev pub refusals : List Refusal
refusals = Refusal.RaggedSegments ∷ Refusal.BrokenBundle ∷ Refusal.LongName ∷ Refusal.DeepContexts ∷ Refusal.LongBundle ∷ Refusal.WrappingSegment ∷ []

pub numbers_are : map refusal_number refusals ≡ 1 ∷ 2 ∷ 3 ∷ 4 ∷ 5 ∷ 9 ∷ []
numbers_are = refl

-- the first of some refusals that has a number
unfoldable pub numbered : ℕ → List Refusal → Option Refusal
numbered n [] = None
numbered n (r ∷ rs) = cond (eqb (refusal_number r) n) (Some r) (numbered n rs)

pub told_apart : (r : Refusal) → numbered (refusal_number r) refusals ≡ Some r
unfolding numbered
told_apart Refusal.RaggedSegments = refl
told_apart Refusal.BrokenBundle = refl
told_apart Refusal.LongName = refl
told_apart Refusal.DeepContexts = refl
told_apart Refusal.LongBundle = refl
told_apart Refusal.WrappingSegment = refl
