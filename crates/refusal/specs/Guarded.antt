-- docs/SPECIFICATION.md, "Refusals": what is wrong with a list of segment numbers. A count that is not a multiple of four is refused
-- with 1, and then a segment that wraps with 9, before anything else.
use Rattle.std.specs.Prelude.{ℕ, suc, ◌+◌, ◌%◌, ◌^◌, List, [], ◌∷◌, Bool, false, cond, ◌||◌, length, eqb, leb, Option, Some, None, Result, Ok, Err, ⊤}
use Rattle.segment.specs.Segments.{Segment, segments_of}
use Rattle.refusal.specs.Refusal.{Guarded, refused, refusal_number}
use Rattle.refusal.specs.declared.Refusal.{Refusal}

-- a segment that does not end below 2^64
abbrev pub wrapping : Segment → Bool
wrapping s = leb (2 ^ 64) (s.vmaddr + s.vmsize)

unfoldable pub any_wrapping : List Segment → Bool
any_wrapping [] = false
any_wrapping (s ∷ ss) = wrapping s || any_wrapping ss

-- the number of the refusal that a list gets, if it gets one
unfoldable pub fault : List ℕ → Option ℕ
fault segments = cond (eqb (length segments % 4) 0) (cond (any_wrapping (segments_of segments)) (Some 9) None) (Some 1)

-- what the test of a list tells
abbrev pub fault_of : Result ⊤ Refusal → Option ℕ
fault_of (Ok _) = None
fault_of (Err r) = Some (refusal_number r)

-- the number of the first segment that wraps, the first of all being number `k`
unfoldable pub first_wrapping : ℕ → List Segment → Option ℕ
first_wrapping k [] = None
first_wrapping k (s ∷ ss) = cond (wrapping s) (Some k) (first_wrapping (suc k) ss)

abbrev pub refused_by : {A : Type 0} → Option ℕ → Guarded A → Guarded A
refused_by (Some n) g = refused n
refused_by None g = g

-- what a call with segments answers
unfoldable pub guarded : {A : Type 0} → List ℕ → Guarded A → Guarded A
guarded segments g = refused_by (fault segments) g
