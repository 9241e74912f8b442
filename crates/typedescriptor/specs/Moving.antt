-- Rows read one after the other with a mapping (docs/DECISIONS.md, "Speed"): it moves to each descriptor before its row is read.
use Rattle.std.specs.Prelude.{◌≡◌, ℕ, List, Option}
use Rattle.segment.specs.Mapping.{TrueMapping}
use Rattle.segment.specs.declared.segment.Mapping.{Mapping}
use Rattle.runtime.specs.Reads.{run}
use Rattle.typedescriptor.specs.Row.{descriptor_of}
use Rattle.typedescriptor.specs.Slots.{slot_row}
use Rattle.typedescriptor.specs.declared.descriptor.Row.{Row}

-- a true mapping leads to another true mapping, and the row is the slot's
pub record RowMoved (image segments : List ℕ) (m : Mapping) (types : List ℕ) (start i : ℕ) (d : Option Row) (r : Mapping) : Type 0 where
  pub mapped : TrueMapping segments m → TrueMapping segments r
  pub row : TrueMapping segments m → descriptor_of image d ≡ run image segments (slot_row types start i)
