-- The printed listing of the image `Oak` (crate `items`) and of its cuts, worked out by computing: what is left of a joined name if the
-- contexts around a row are lost and the row is not.
use Rattle.std.specs.Prelude.{ℕ, ◌≡◌, refl, List, [], ◌∷◌, ◌++◌, true, false, take}
use Rattle.utf8.specs.Table.{table}
use Rattle.utf8.specs.Text.{following, goes_on, until_nul, text_length}
use Rattle.util.specs.Letters.{letters}
use Rattle.util.specs.LittleEndian.{little_endian, bytes_at, little_at, twos_complement, signed_at, unsigned_in, signed_in}
use Rattle.util.specs.Pointer.{relative_pointer, relative_address}
use Rattle.segment.specs.Segments.{segments_of, file_offset, decides, in_file}
use Rattle.util.specs.Cstr.{text_at}
use Rattle.runtime.specs.Reads.{within, bytes_place, text_offset, run, Range, extent, path, bind}
use Rattle.context.specs.Context.{kind_of}
use Rattle.typedescriptor.specs.Row.{row_name, descriptor}
use Rattle.typedescriptor.specs.Slots.{slot_row, rows_from, rows}
use Rattle.parent.specs.Context.{header_in, header, slot_name, name_at, name, context_name, with_name, context_read}
use Rattle.parent.specs.Chain.{header_at, chain}
use Rattle.qualified_name.specs.Name.{hops, qualified_name, too_deep, name_answer}
use Rattle.items.proofs.Oak.{oak_image, oak_segments, oak_sections}
use Rattle.type_lines.specs.Digits.{digit, hex, decimal}
use Rattle.type_lines.specs.Lines.{kind_word, name_text, row_line, end_line, lines}
use Rattle.cut_lines.specs.CutLines.{joined_path}

abbrev listed : List ℕ → List (List ℕ)
listed i = lines i oak_segments oak_sections.types oak_sections.types_start

-- `0000000000001004 class `, a name, a line end; and the last line, `end 1` or `end 0`
abbrev line_of : List ℕ → List ℕ
line_of n =
    letters "0000000000001004 class " ++ (n ++ (10 ∷ []))

abbrev ending : ℕ → List ℕ
ending d = letters "end " ++ d ∷ 10 ∷ []

-- bytes from an offset up to another
abbrev bytes_to : ℕ → ℕ → Range
bytes_to o e = record { from = o; to = e; is_text = false }

pub record OakLinesWorked : Type 0 where
  -- `Wood.Oak`
  pub whole : listed oak_image ≡ line_of (letters "Wood.Oak") ∷ ending 49 ∷ []
  -- the joined name reads the 8 bytes of both contexts, and of the module, which has a name, the 4 bytes of its offset and the name
  pub reads : joined_path oak_image oak_segments 0x1058 ≡ bytes_to 88 96 ∷ bytes_to 96 104 ∷ bytes_to 104 108 ∷ record { from = 108; to = 113; is_text = true } ∷ []
  -- cut into the module's name: `Wo.Oak`. The premise for its own name is enough for the row; the names before it have their own premise
  pub cut_110 : listed (take 110 oak_image) ≡ line_of (letters "Wo.Oak") ∷ ending 49 ∷ []
  -- the module's name is lost, and then the contexts: `Oak`
  pub cut_107 : listed (take 107 oak_image) ≡ line_of (letters "Oak") ∷ ending 49 ∷ []
  pub cut_24 : listed (take 24 oak_image) ≡ line_of (letters "Oak") ∷ ending 49 ∷ []
  -- the row is lost
  pub cut_23 : listed (take 23 oak_image) ≡ ending 48 ∷ []

pub oak_lines_worked : OakLinesWorked
unfolding run path extent bind bytes_place within text_offset segments_of file_offset decides in_file table following goes_on text_at text_length until_nul unsigned_in signed_in little_at signed_at bytes_at little_endian twos_complement relative_address relative_pointer descriptor row_name slot_row rows_from rows kind_of header_in header header_at slot_name name_at name context_name with_name context_read chain hops qualified_name too_deep name_answer digit hex decimal kind_word name_text row_line end_line lines joined_path
oak_lines_worked = record { whole = refl; reads = refl; cut_110 = refl; cut_107 = refl; cut_24 = refl; cut_23 = refl }
