-- What the readers read from.
use Rattle.std.specs.Prelude.{ℕ, List}
use Rattle.segment.specs.Mapping.{with_mapping}
use Rattle.runtime.specs.declared.reads.SwiftRuntime.{SwiftRuntime}

-- the segments' numbers that a runtime's readers answer by: its mapping is tried before the segments
abbrev pub tried : SwiftRuntime → List ℕ
tried rt = with_mapping rt.mapping rt.segments.now
