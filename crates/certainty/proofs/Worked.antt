-- Certainty worked out by computing: the images `Clue` and `Oak` of crate `items`, cut and whole, and one whose chain of contexts ends at an address outside the segments.
use Rattle.std.specs.Prelude.{ℕ, ◌≡◌, refl, List, [], ◌∷◌, ◌++◌, Bool, true, false, take, Option, Some}
use Rattle.utf8.specs.Table.{table}
use Rattle.utf8.specs.Text.{following, goes_on, until_nul, text_length}
use Rattle.util.specs.Letters.{letters}
use Rattle.util.specs.LittleEndian.{little_endian, bytes_at, little_at, twos_complement, signed_at, unsigned_in, signed_in}
use Rattle.util.specs.Pointer.{relative_pointer, relative_address}
use Rattle.segment.specs.Segments.{segments_of, file_offset, decides, in_file}
use Rattle.util.specs.Cstr.{text_at}
use Rattle.refusal.specs.Refusal.{Guarded, answered}
use Rattle.runtime.specs.Reads.{within, bytes_place, text_offset, run, bind}
use Rattle.context.specs.Context.{kind_of}
use Rattle.typedescriptor.specs.Row.{row_name, descriptor}
use Rattle.typedescriptor.specs.Slots.{slot_row}
use Rattle.parent.specs.Context.{header_in, header, slot_name, name_at, name, context_name, with_name, context_read}
use Rattle.parent.specs.Chain.{header_at, chain}
use Rattle.qualified_name.specs.Name.{hops, qualified_name, too_deep, name_answer}
use Rattle.items.specs.Keys.{Sections}
use Rattle.items.proofs.Worked.{Table, laid}
use Rattle.items.proofs.Clue as Clue
use Rattle.items.proofs.Oak as Oak
use Rattle.certainty.specs.Certain.{has_nul, certain}
use Rattle.certainty.specs.JoinedName.{header_certain, chain_certain, name_certain, joined_name}

-- an image as far as it arrived, its segments and sections
pub record Arrived : Type 0 where
  pub bytes : List ℕ
  pub segments : List ℕ
  pub sections : Sections

abbrev row : Arrived → Bool
row a = certain a.bytes a.segments (slot_row a.sections.types a.sections.types_start 0)

abbrev named : Arrived → Bool
named a = name_certain a.bytes a.segments a.sections.types a.sections.types_start 0

abbrev joined : Arrived → Option (Guarded (List ℕ))
joined a = joined_name a.bytes a.segments a.sections.types a.sections.types_start 0 16

-- the layouts of `Clue` and `Oak`
abbrev as_clue : List ℕ → Arrived
as_clue bytes = record { bytes = bytes; segments = Clue.clue_segments; sections = Clue.clue_sections }

abbrev clue : ℕ → Arrived
clue c = as_clue (take c Clue.clue_image)

abbrev oak : ℕ → Arrived
oak c = record { bytes = take c Oak.oak_image; segments = Oak.oak_segments; sections = Oak.oak_sections }

-- `Clue` with a parent's offset of 0x4000: its parent is at 0x5004, which is not in the file
abbrev outside : List ℕ
outside =
    17 ∷ 0 ∷ 0 ∷ 0 ∷ 0 ∷ 0x40 ∷ 0 ∷ 0 ∷ 20 ∷ 0 ∷ 0 ∷ 0 ∷ 0 ∷ 0 ∷ 0 ∷ 0 ∷ 0 ∷ 0 ∷ 0 ∷ 0 ∷ 0 ∷ 0 ∷ 0 ∷ 0 ∷ 0 ∷ 0 ∷ 0 ∷ 0 ∷ letters "Clue" ++ 0 ∷ []

-- the same file in a segment of 8 bytes more, and its parent there, at 0x1024: the offset 0x20
abbrev further : Arrived
further =
    record { bytes = 17 ∷ 0 ∷ 0 ∷ 0 ∷ 0x20 ∷ 0 ∷ 0 ∷ 0 ∷ 20 ∷ 0 ∷ 0 ∷ 0 ∷ 0 ∷ 0 ∷ 0 ∷ 0 ∷ 0 ∷ 0 ∷ 0 ∷ 0 ∷ 0 ∷ 0 ∷ 0 ∷ 0 ∷ 0 ∷ 0 ∷ 0 ∷ 0 ∷ letters "Clue" ++ 0 ∷ []; segments = laid 41; sections = Clue.clue_sections }

pub record CertaintyWorked : Type 0 where
  pub rows : Table row
      -- the name without its NUL is not certain, though the row is present
      ((clue 28, false)
      ∷ (clue 29, false)
      ∷ (clue 30, false)
      ∷ (clue 31, false)
      ∷ (clue 32, false)
      ∷ (clue 33, true)
      -- a slot without a row: its 20 bytes did not arrive; its name is ill_formed, and its NUL arrived, or not yet
      ∷ (clue 19, false)
      ∷ (as_clue Clue.broken, true)
      ∷ (as_clue (take 31 Clue.broken), false)
      -- `Oak`'s own name comes first
      ∷ (oak 23, false)
      ∷ (oak 24, true)
      ∷ (further, true)
      ∷ [])
  pub names : Table named
      -- it has no parent: the chain ends at address 0
      ((clue 33, true)
      -- the chain met the end: at its first context, at the module, at the offset of its name, in the name
      ∷ (oak 24, false)
      ∷ (oak 95, false)
      ∷ (oak 103, false)
      ∷ (oak 107, false)
      ∷ (oak 110, false)
      -- the name without its NUL, and with it
      ∷ (oak 112, false)
      ∷ (oak 113, true)
      -- a chain that ends at an address outside every segment, and one whose next context has not arrived
      ∷ (as_clue outside, true)
      ∷ (further, false)
      ∷ [])
  -- cut in the name of the module, the joined name is `Wo.Oak`
  pub joined_110 : joined (oak 110) ≡ Some (answered (letters "Wo.Oak"))

pub certainty_worked : CertaintyWorked
unfolding certain has_nul header_certain chain_certain name_certain joined_name run bind bytes_place within text_offset segments_of file_offset decides in_file table following goes_on text_at text_length until_nul unsigned_in signed_in little_at signed_at bytes_at little_endian twos_complement relative_address relative_pointer descriptor row_name slot_row kind_of header_in header header_at slot_name name_at name context_name with_name context_read chain hops qualified_name too_deep name_answer
certainty_worked = record { rows = refl; names = refl; joined_110 = refl }
