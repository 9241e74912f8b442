-- The rows of `Oak` (crate `items`) worked through: the record of its class in lists of several lengths, of a section that refers to the
-- class twice, and of an image that is cut in the vtable's header; and the methods of the record's vtable.
use Rattle.std.specs.Prelude.{ℕ, ◌≡◌, refl, List, [], ◌∷◌, ◌++◌, Bool, true, false, take, replicate}
use Rattle.utf8.specs.Table.{table}
use Rattle.utf8.specs.Text.{following, goes_on, until_nul, text_length}
use Rattle.util.specs.LittleEndian.{little_endian, bytes_at, little_at, twos_complement, signed_at, unsigned_in, signed_in}
use Rattle.util.specs.Pointer.{relative_pointer, relative_address}
use Rattle.util.specs.Cstr.{text_at}
use Rattle.segment.specs.Segments.{segments_of, file_offset, decides, in_file}
use Rattle.runtime.specs.Reads.{within, bytes_place, text_offset, run, bind}
use Rattle.context.specs.Context.{kind_of}
use Rattle.classtrailers.specs.Blocks.{row_at, below, block_at, record_at, end_at, passed, reached, block_in, block}
use Rattle.typedescriptor.specs.Row.{row_name, descriptor}
use Rattle.typedescriptor.specs.Slots.{slot_row, rows_from}
use Rattle.typedescriptor.specs.Given.{RowsGiven, given_in}
use Rattle.type_body.specs.Body.{class_body, body_bytes, body}
use Rattle.type_body.specs.Items.{start_below}
use Rattle.vtable.specs.Entries.{method, start, entry_at, entry_step}
use Rattle.entry_tables.specs.Tables.{WholeTable, table_by, table_in}
use Rattle.items.proofs.Oak.{oak_image, oak_segments}
use Rattle.full_rows.specs.FullRows.{block_fours, full_row, full_rows_in}

-- one slot at 0x2000 that refers to 0x1004, and two of them
abbrev once : List ℕ
once = 0x04 ∷ 0xf0 ∷ 0xff ∷ 0xff ∷ []

abbrev twice : List ℕ
twice = 0x04 ∷ 0xf0 ∷ 0xff ∷ 0xff ∷ 0x00 ∷ 0xf0 ∷ 0xff ∷ 0xff ∷ []

-- row and body, and the blocks: a vtable and an override table
abbrev row_and_body : ℕ → List ℕ
row_and_body slot = slot ∷ 0x1004 ∷ 0xc0000010 ∷ 0x1058 ∷ 0 ∷ 3 ∷ 1 ∷ replicate 7 0

abbrev oak : ℕ → List ℕ
oak slot = row_and_body slot ++ (replicate 16 0 ++ (1 ∷ 0 ∷ 2 ∷ 0x1038 ∷ 1 ∷ 1 ∷ 0x104c ∷ 0 ∷ replicate 20 0))

abbrev given : List ℕ → ℕ → Bool → RowsGiven
given ns next all = record { written = ns; next = next; all = all }

abbrev methods : List ℕ → ℕ → WholeTable
methods image room = table_in image oak_segments method (start 0x1038 2) room

abbrev listed : List ℕ → ℕ → ℕ → WholeTable
listed ns entries stop = record { numbers = ns; entries = entries; stop = stop }

pub record OakRowsWorked : Type 0 where
  pub whole : full_rows_in oak_image oak_segments once 0x2000 0 58 ≡ given (oak 0) 1 true
  pub no_room : full_rows_in oak_image oak_segments once 0x2000 0 57 ≡ given [] 0 false
  -- room for one of two, and the other by going on
  pub first : full_rows_in oak_image oak_segments twice 0x2000 0 115 ≡ given (oak 0) 1 false
  pub second : full_rows_in oak_image oak_segments twice 0x2000 1 58 ≡ given (oak 1) 2 true
  -- past the last slot there is nothing
  pub past : full_rows_in oak_image oak_segments once 0x2000 5 58 ≡ given [] 5 true
  -- without the last byte of the vtable's header
  pub cut : full_rows_in (take 55 oak_image) oak_segments once 0x2000 0 58 ≡ given (row_and_body 0 ++ replicate 44 0) 1 true
  -- both methods, at 0x1038 and 0x1040; room for one of them; and without the last byte of the second
  pub both_methods : methods oak_image 6 ≡ listed (0x1038 ∷ 16 ∷ 0 ∷ 0x1040 ∷ 17 ∷ 0 ∷ []) 2 0
  pub one_method : methods oak_image 5 ≡ listed (0x1038 ∷ 16 ∷ 0 ∷ []) 1 1
  pub cut_method : methods (take 71 oak_image) 6 ≡ listed (0x1038 ∷ 16 ∷ 0 ∷ []) 1 2

pub oak_rows_worked : OakRowsWorked
unfolding run bind bytes_place within text_offset segments_of file_offset decides in_file table following goes_on text_at text_length until_nul unsigned_in signed_in little_at signed_at bytes_at little_endian twos_complement relative_address relative_pointer descriptor row_name slot_row rows_from class_body body_bytes body start_below row_at below block_at record_at end_at passed reached block_in block entry_at entry_step kind_of table_by given_in block_fours full_row
oak_rows_worked =
    record { whole = refl; no_room = refl; first = refl; second = refl; past = refl; cut = refl; both_methods = refl; one_method = refl; cut_method = refl }
