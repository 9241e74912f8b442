-- Addresses that the segments map to the file one after the other. A true mapping saves a walk over the segments and changes no answer.
use Rattle.std.specs.Prelude.{ℕ, ◌+◌, ◌-◌, ◌^◌, ◌≤◌, ◌<◌, ◌≡◌, cond, List, ◌∷◌, eqb, Option, Some, None}
use Rattle.segment.specs.Segments.{Segment, segments_of, file_offset, decides}
use Rattle.segment.specs.declared.segment.Mapping.{Mapping}

-- the segments' numbers with a mapping before them as one more segment: what a call that takes a mapping answers by. A mapping without
-- addresses adds nothing: with `NO_MAPPING` this computes to the segments.
abbrev pub with_mapping : Mapping → List ℕ → List ℕ
with_mapping m segments = cond (eqb m.size 0) segments (m.vmaddr ∷ (m.size ∷ (m.fileoff ∷ (m.size ∷ segments))))

-- what the mapping itself says of an address
abbrev pub as_segment : Mapping → Segment
as_segment m = record { vmaddr = m.vmaddr; vmsize = m.size; fileoff = m.fileoff; filesize = m.size }

-- a mapping is true of the segments: with it before them, every address has the offset that it has without it
pub record TrueMapping (segments : List ℕ) (m : Mapping) : Type 0 where
  pub same : (v : ℕ) → file_offset (segments_of (with_mapping m segments)) v ≡ file_offset (segments_of segments) v

-- an address is one of them
pub record Has (m : Mapping) (v : ℕ) : Type 0 where
  pub from : m.vmaddr ≤ v
  pub to : v < m.vmaddr + m.size

-- and each of them lies in the file where the mapping says
pub record Exact (segments : List ℕ) (m : Mapping) : Type 0 where
  pub offset : (v : ℕ) → Has m v → file_offset (segments_of segments) v ≡ Some (m.fileoff + (v - m.vmaddr))

-- the answer of `locate`: a mapping that has the address, or that this address is not in the file. How many addresses around it the
-- mapping has is left open.
abbrev pub Located : List ℕ → ℕ → Option Mapping → Type 0
Located segments v (Some m) = TrueMapping segments m × Has m v × Exact segments m
Located segments v None = None ≡ file_offset (segments_of segments) v

-- the same with the caller's mapping, which is the answer if it has the address: the answer is true if the caller's mapping is
abbrev pub LocatedNear : List ℕ → Mapping → ℕ → Option Mapping → Type 0
LocatedNear segments m v (Some r) = (TrueMapping segments m → TrueMapping segments r) × Has r v
LocatedNear segments m v None = None ≡ file_offset (segments_of segments) v

-- a segment covers an address that is one of those from `low` up to `high`; `high` is 2^64 - 1 where nothing bounds it
pub record Covered (low high : ℕ) (s : Segment) (v : ℕ) : Type 0 where
  pub ends : s.vmaddr + s.vmsize < 2 ^ 64
  pub from : (low ≤ v) × (s.vmaddr ≤ v)
  pub to : (high < 2 ^ 64 - 1 → v < high) × (v < s.vmaddr + s.vmsize)
  pub bytes : 0 < s.filesize

-- addresses of the segment around one, all in the file and between `low` and `high`
pub record Part (low high : ℕ) (s : Segment) (v : ℕ) (m : Mapping) : Type 0 where
  pub fits : m.fileoff + m.size ≤ 2 ^ 64
  pub has : Has m v
  pub from : (low ≤ m.vmaddr) × (s.vmaddr ≤ m.vmaddr)
  pub to : (m.vmaddr + m.size ≤ high) × (m.vmaddr + m.size ≤ s.vmaddr + s.vmsize) × (m.vmaddr + m.size ≤ s.vmaddr + s.filesize)
  pub offset : m.fileoff + s.vmaddr ≡ s.fileoff + m.vmaddr

-- or that the segment does not have the address in the file
abbrev pub Clipped : ℕ → ℕ → Segment → ℕ → Option Mapping → Type 0
Clipped low high s v (Some m) = Part low high s v m
Clipped low high s v None = Some None ≡ decides s v
