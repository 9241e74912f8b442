-- From an address to a file offset: docs/SPECIFICATION.md, "File offsets". A segment is the four
-- numbers of a `segment_command_64` of mach-o/loader.h that say where it lies.
use Rattle.std.specs.Prelude.{ℕ, ◌+◌, ◌-◌, ◌^◌, List, [], ◌∷◌, Bool, cond, ◌&&◌, ◌||◌, leb, ltb, Option, Some, None, unwrap_or, get_or}
use Rattle.segment.specs.declared.segment.Segment.{Segment as Declared}

abbrev pub Segment : Type 0
Segment = Declared

-- the segment that has these numbers
abbrev pub segment_from : List ℕ → Segment
segment_from c = record { vmaddr = get_or c 0 0; vmsize = get_or c 1 0; fileoff = get_or c 2 0; filesize = get_or c 3 0 }

-- four numbers to a segment; fewer are not a segment
unfoldable pub segments_of : List ℕ → List Segment
segments_of [] = []
segments_of (a ∷ []) = []
segments_of (a ∷ (b ∷ [])) = []
segments_of (a ∷ (b ∷ (c ∷ []))) = []
segments_of (a ∷ (b ∷ (c ∷ (d ∷ rest)))) = record { vmaddr = a; vmsize = b; fileoff = c; filesize = d } ∷ segments_of rest

-- whether the segment decides about the address
abbrev pub covers : Segment → ℕ → Bool
covers s v = leb s.vmaddr v && ltb v (s.vmaddr + s.vmsize) && ltb 0 s.filesize

-- the offset at a distance from the segment's start, if that byte is in the file
unfoldable pub in_file : Segment → ℕ → Option ℕ
in_file s d = cond (leb s.filesize d || leb (2 ^ 64) (s.fileoff + d)) None (Some (s.fileoff + d))

-- what a segment says of an address: `None` leaves it to the next segment
unfoldable pub decides : Segment → ℕ → Option (Option ℕ)
decides s v =
    cond (leb (2 ^ 64) (s.vmaddr + s.vmsize)) (Some None)
    (cond (covers s v) (Some (in_file s (v - s.vmaddr))) None)

-- the first segment that says something
unfoldable pub file_offset : List Segment → ℕ → Option ℕ
file_offset [] v = None
file_offset (s ∷ ss) v = unwrap_or (decides s v) (file_offset ss v)
