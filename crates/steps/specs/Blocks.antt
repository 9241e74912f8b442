-- What the calls over the blocks of a row and a body answer: docs/SPECIFICATION.md, "Refusals" and "Trailing blocks".
use Rattle.std.specs.Prelude.{List, ℕ, false, Option, Some, None}
use Rattle.runtime.specs.Reads.{and_then, run}
use Rattle.classtrailers.specs.Blocks.{block}
use Rattle.classtrailers.specs.declared.block.Block.{Block}
use Rattle.classtrailers.specs.declared.block.BlockKind.{BlockKind}
use Rattle.classtrailers.specs.declared.iter.BlockIter.{BlockIter}
use Rattle.type_body.specs.declared.trailers.Start.{Start}

-- the walk over what follows a body; if nothing follows, it has ended, past the last row
abbrev pub walk_from : Option Start → BlockIter
walk_from None = record { trailing = record { flags = 0; is_class = false; extra = 0 }; row = 11; address = 0 }
walk_from (Some s) = record { trailing = s.trailing; row = 0; address = s.start }

-- the block of a kind of what follows a body
abbrev pub kind_from : List ℕ → List ℕ → BlockKind → Option Start → Option Block
kind_from image segments kind start = and_then start (λ s. run image segments (block s.trailing s.start kind))
