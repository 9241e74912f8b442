-- From a file offset to an address (docs/SPECIFICATION.md, "File offsets"): the segments seen from the file. The first file bytes of a
-- `segment_command_64` (mach-o/loader.h) lie at its first addresses, and the file bytes past `vmsize` at none.
use Rattle.std.specs.Prelude.{ℕ, min, List, map, Option}
use Rattle.segment.specs.Segments.{Segment, file_offset}

-- offsets and addresses exchanged, and only what has both
abbrev pub turned : Segment → Segment
turned s = record { vmaddr = s.fileoff; vmsize = min s.vmsize s.filesize; fileoff = s.vmaddr; filesize = min s.vmsize s.filesize }

-- the address is to the turned segments what the offset is to the segments
unfoldable pub vm_address : List Segment → ℕ → Option ℕ
vm_address segments o = file_offset (map turned segments) o
