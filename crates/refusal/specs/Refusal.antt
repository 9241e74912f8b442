-- The refusals by their numbers: docs/SPECIFICATION.md, "Refusals".
use Rattle.std.specs.Prelude.{ℕ, Option, Some, None, Result, Ok, Err}
use Rattle.refusal.specs.declared.Refusal.{Refusal}

-- an answer, or the number of a refusal
pub data Guarded (A : Type 0) : Type 0 where
  answered : A → Guarded A
  refused : ℕ → Guarded A

abbrev pub refusal_number : Refusal → ℕ
refusal_number Refusal.RaggedSegments = 1
refusal_number Refusal.BrokenBundle = 2
refusal_number Refusal.LongName = 3
refusal_number Refusal.DeepContexts = 4
refusal_number Refusal.LongBundle = 5
refusal_number Refusal.WrappingSegment = 9

-- what a call that may refuse returns
abbrev pub outcome : {A : Type 0} → Result A Refusal → Guarded A
outcome (Ok a) = answered a
outcome (Err r) = refused (refusal_number r)

-- the same refusal, or another answer
abbrev pub mapped : {A B : Type 0} → (A → B) → Guarded A → Guarded B
mapped f (answered a) = answered (f a)
mapped f (refused n) = refused n

-- what a call answers, none if it refuses
abbrev pub answer_of : {A : Type 0} → Guarded A → Option A
answer_of (answered a) = Some a
answer_of (refused n) = None
