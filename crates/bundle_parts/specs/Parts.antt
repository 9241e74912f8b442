-- What lies at a layout's places (docs/SPECIFICATION.md, "Bundles"): util's parts, and the segments as numbers.
use Rattle.std.specs.Prelude.{ℕ, zero, suc, ◌+◌, ◌*◌, ◌/◌, min, List, [], ◌∷◌, cond, length, take, drop, leb, Option, Some, None}
use Rattle.util.specs.Cstr.{part_of}
use Rattle.util.specs.LittleEndian.{little_endian}
use Rattle.segment.specs.Segments.{Segment}
use Rattle.util.specs.declared.cstr.Place.{Place}
use Rattle.bundle.specs.declared.open.Layout.{Layout}

-- the bytes of a part, none if it does not lie within
abbrev pub bytes_of : List ℕ → Place → List ℕ
bytes_of s p = part_of s p

abbrev pub segment_bytes : List ℕ → Layout → List ℕ
segment_bytes s l = bytes_of s l.segments

-- the number in the eight bytes from an offset on
abbrev pub u64_in : List ℕ → ℕ → ℕ
u64_in s at = little_endian (take 8 (drop at s))

-- a segment by its number, from its 32 bytes in a body; none if the body does not have them all
unfoldable pub segment_in : List ℕ → ℕ → Option Segment
segment_in body k =
    cond (leb (32 * k + 32) (length body))
    (Some (record { vmaddr = u64_in body (32 * k); vmsize = u64_in body (32 * k + 8); fileoff = u64_in body (32 * k + 16); filesize = u64_in body (32 * k + 24) }))
    None

-- the first numbers of a body, eight bytes each
unfoldable pub numbers : ℕ → List ℕ → List ℕ
numbers zero s = []
numbers (suc n) s = little_endian (take 8 s) ∷ numbers n (drop 8 s)

-- all numbers of the segments, four to a segment
abbrev pub segment_numbers : List ℕ → Layout → List ℕ
segment_numbers s l = numbers (4 * (length (segment_bytes s l) / 32)) (segment_bytes s l)

-- how many numbers a caller's list has: enough for every bundle
abbrev pub segment_numbers_most : ℕ
segment_numbers_most = 8192

-- those that such a list holds: all of them for a layout of a bundle (`numbers-all`)
abbrev pub listed_numbers : List ℕ → Layout → List ℕ
listed_numbers s l = numbers (min segment_numbers_most (4 * (length (segment_bytes s l) / 32))) (segment_bytes s l)
