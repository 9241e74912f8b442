-- Two bundles and what is left of them when their image is cut, worked out by computing: each pair is a `CutBundle`, and what `cut-printed` says of it is here line for line.
use Prim.Native.Nat.{ℕ, zero, suc, ◌+◌, ◌/◌}
use Rattle.std.proofs.Common.{arith, ◌∙◌, inl, inr}
use Rattle.std.specs.Prelude.{◌≡◌, refl, List, [], ◌∷◌, ◌++◌, map, length, take, drop, Option, Some}
use borrow.Author.Tests.{le-ltb}
use Rattle.utf8.specs.Table.{table}
use Rattle.utf8.specs.Text.{following, goes_on, until_nul, text_length}
use Rattle.util.specs.Letters.{letters}
use Rattle.util.specs.LittleEndian.{little_endian, bytes_at, little_at, twos_complement, signed_at, unsigned_in, signed_in}
use Rattle.util.specs.Pointer.{relative_pointer, relative_address}
use Rattle.util.specs.Cstr.{place, text_at, part_of}
use Rattle.segment.specs.Segments.{segments_of, file_offset, decides, in_file}
use Rattle.runtime.specs.Reads.{within, bytes_place, text_offset, run, extent, path, bind}
use Rattle.context.specs.Context.{kind_of}
use Rattle.typedescriptor.specs.Row.{row_name, descriptor}
use Rattle.typedescriptor.specs.Slots.{Found, slot_row, rows_from, rows}
use Rattle.parent.specs.Context.{header_in, header, slot_name, name_at, name, context_name, with_name, context_read}
use Rattle.parent.specs.Chain.{header_at, chain}
use Rattle.qualified_name.specs.Name.{hops, qualified_name, too_deep, name_answer}
use Rattle.items.proofs.Oak.{oak_image}
use Rattle.items.specs.Texts.{NameKey, descriptor_name, slot_name_address, name_of, ClearOf}
use Rattle.items.proofs.ClearLaws.{Outside, nowhere, there}
use Rattle.items.proofs.CutLaws.{kept_rows}
use Rattle.bundle.specs.Bundle.{body_fits, section_in}
use Rattle.bundle.specs.Open.{is_at, taken_at, answer, open_bundle}
use Rattle.bundle_parts.specs.Accepted.{accept_bundle}
use Rattle.refusal.specs.Guarded.{any_wrapping, fault, guarded}
use Rattle.bundle.specs.declared.open.Layout.{Layout}
use Rattle.bundle_parts.specs.Parts.{bytes_of, numbers, segment_numbers}
use Rattle.type_lines.specs.Digits.{digit, hex, decimal}
use Rattle.type_lines.specs.Lines.{kind_word, name_text, row_line, end_line, lines}
use Rattle.bundle_lines.specs.Printed.{printed}
use Rattle.cut_lines.specs.CutLines.{sections_of, CutBundle}
use Rattle.cut_lines.proofs.CutLinesLaws.{cut_printed}

-- ---- the bundles

-- 38 bytes: the segments, a segment of `n` bytes at 0x1000; and 18: the types at 0x2000, one slot, with the offset `o` - 0x1000
abbrev behind : ℕ → ℕ → List ℕ
behind n o =
    32 ∷ 0 ∷ 0 ∷ 0 ∷ 2 ∷ 0 ∷
    0 ∷ 0x10 ∷ 0 ∷ 0 ∷ 0 ∷ 0 ∷ 0 ∷ 0 ∷ n ∷ 0 ∷ 0 ∷ 0 ∷ 0 ∷ 0 ∷ 0 ∷ 0 ∷ 0 ∷ 0 ∷ 0 ∷ 0 ∷ 0 ∷ 0 ∷ 0 ∷ 0 ∷ n ∷ 0 ∷ 0 ∷ 0 ∷ 0 ∷ 0 ∷ 0 ∷ 0 ∷
    12 ∷ 0 ∷ 0 ∷ 0 ∷ 3 ∷ 0 ∷
    0 ∷ 0x20 ∷ 0 ∷ 0 ∷ 0 ∷ 0 ∷ 0 ∷ 0 ∷ o ∷ 0xf0 ∷ 0xff ∷ 0xff ∷ []

-- samples/clue.bundle: the image's 33 bytes after a header of 6
abbrev clue : List ℕ
clue =
    33 ∷ 0 ∷ 0 ∷ 0 ∷ 1 ∷ 0 ∷
    17 ∷ 0 ∷ 0 ∷ 0 ∷ 0 ∷ 0 ∷ 0 ∷ 0 ∷ 20 ∷ 0 ∷ 0 ∷ 0 ∷ 0 ∷ 0 ∷ 0 ∷ 0 ∷ 0 ∷ 0 ∷ 0 ∷ 0 ∷ 0 ∷ 0 ∷ 0 ∷ 0 ∷ 0 ∷ 0 ∷ 0 ∷ 0 ∷ letters "Clue" ++ 0 ∷
    behind 33 0

-- its image cut to 27 bytes
abbrev clue' : List ℕ
clue' =
    27 ∷ 0 ∷ 0 ∷ 0 ∷ 1 ∷ 0 ∷
    17 ∷ 0 ∷ 0 ∷ 0 ∷ 0 ∷ 0 ∷ 0 ∷ 0 ∷ 20 ∷ 0 ∷ 0 ∷ 0 ∷ 0 ∷ 0 ∷ 0 ∷ 0 ∷ 0 ∷ 0 ∷ 0 ∷ 0 ∷ 0 ∷ 0 ∷ 0 ∷ 0 ∷ 0 ∷ 0 ∷ 0 ∷
    behind 33 0

-- the image `Oak` (crate `items`), and cut to 107 bytes: the module's name is lost
abbrev oak : List ℕ
oak = 113 ∷ 0 ∷ 0 ∷ 0 ∷ 1 ∷ 0 ∷ oak_image ++ behind 113 4

abbrev oak' : List ℕ
oak' = 107 ∷ 0 ∷ 0 ∷ 0 ∷ 1 ∷ 0 ∷ take 107 oak_image ++ behind 113 4

-- an image of `n` bytes after a header of 6, then the segments after another, then the types after a third and their address
abbrev layout : ℕ → Layout
layout n =
    record {
      image = place 6 n;
      segments = place (n + 12) 32;
      types = record { address = 0x2000; part = place (n + 58) 4 };
      fields = record { address = 0; part = place 0 0 };
      strings = record { address = 0; part = place 0 0 };
    }

pub record Met : Type 0 where
  pub clue_27 : CutBundle clue clue' (layout 33) (layout 27) 27
  pub oak_107 : CutBundle oak oak' (layout 113) (layout 107) 107

pub met : Met
unfolding accept_bundle guarded fault any_wrapping segments_of open_bundle answer taken_at is_at body_fits section_in little_endian part_of numbers
met =
    record {
      clue_27 = record { whole = refl; opened = refl; image = refl; segments = refl; types = refl; types_start = refl };
      oak_107 = record { whole = refl; opened = refl; image = refl; segments = refl; types = refl; types_start = refl };
    }

-- ---- the premise

module _ (b : List ℕ) (l : Layout) (c : ℕ) where
  abbrev Clears : ℕ → Type 0
  Clears i = ClearOf (bytes_of b l.image) (segment_numbers b l) (sections_of b l) c (NameKey.descriptor i)

  abbrev named : ℕ → Option ℕ
  named i = run (bytes_of b l.image) (segment_numbers b l) (name_of (sections_of b l) (NameKey.descriptor i))

  -- for one slot, whose name is looked up at `a`, offset `o`
  of_one : (a o : ℕ) → length (bytes_of b l.types.part) / 4 ≡ 1 → named 0 ≡ Some a → text_offset (segment_numbers b l) a ≡ Some o
      → Outside o (o + extent (drop o (bytes_of b l.image))) c → (i : ℕ) → Clears i
  unfolding run slot_name_address name_of
  of_one a o n e t h zero = there (bytes_of b l.image) (segment_numbers b l) (sections_of b l) c (NameKey.descriptor 0) a o e t h
  of_one a o n e t h (suc i) =
      nowhere (bytes_of b l.image) (segment_numbers b l) (sections_of b l) c (NameKey.descriptor (suc i)) (rw (n, le-ltb (suc i) 1 (omega arith)) refl)

-- the cut to 27 falls before the name of `Clue`, which starts at 28
clue_clear : (i : ℕ) → Clears clue (layout 33) 27 i
unfolding run bytes_place within text_offset extent segments_of file_offset decides in_file unsigned_in signed_in little_at signed_at bytes_at little_endian twos_complement relative_pointer descriptor_name slot_name_address name_of part_of numbers
clue_clear = of_one clue (layout 33) 27 0x101c 28 refl refl refl (inl (omega arith))

-- the cut to 107 falls after the name of `Oak`, which ends at 4
oak_clear : (i : ℕ) → Clears oak (layout 113) 107 i
unfolding run bytes_place within text_offset extent segments_of file_offset decides in_file unsigned_in signed_in little_at signed_at bytes_at little_endian twos_complement relative_pointer descriptor_name slot_name_address name_of part_of numbers
oak_clear = of_one oak (layout 113) 107 0x1000 0 refl refl refl (inr (omega arith))

-- ---- the lines

-- an address of 0x1000 + a digit, a kind and a name; and the last line
abbrev line_of : ℕ → List ℕ → List ℕ → List ℕ
line_of d k n = letters "000000000000100" ++ d ∷ 32 ∷ k ++ 32 ∷ n ++ 10 ∷ []

abbrev ending : ℕ → List ℕ
ending d = letters "end " ++ d ∷ 10 ∷ []

abbrev struct : List ℕ
struct = letters "struct"

abbrev class : List ℕ
class = letters "class"

-- the right side of `cut-printed`
abbrev said : List ℕ → Layout → ℕ → List (List ℕ)
said b l c =
    map (λ (f : Found). row_line (take c (bytes_of b l.image)) (segment_numbers b l) f.row) (kept_rows (bytes_of b l.image) (segment_numbers b l) (sections_of b l) c)
    ++ (end_line (length (kept_rows (bytes_of b l.image) (segment_numbers b l) (sections_of b l) c)) ∷ [])

pub record CutBundlesWorked : Type 0 where
  -- whole: `Clue`; `Wood.Oak`
  pub clue_whole : printed clue ≡ line_of 48 struct (letters "Clue") ∷ ending 49 ∷ []
  pub oak_whole : printed oak ≡ line_of 52 class (letters "Wood.Oak") ∷ ending 49 ∷ []
  -- what `cut-printed` says of their cuts: no row is kept; the row is kept, `Oak`
  pub clue_said : said clue (layout 33) 27 ≡ ending 48 ∷ []
  pub oak_said : said oak (layout 113) 107 ≡ line_of 52 class (letters "Oak") ∷ ending 49 ∷ []

pub cut_bundles_worked : CutBundlesWorked
unfolding accept_bundle guarded fault any_wrapping run path extent bind bytes_place within text_offset segments_of file_offset decides in_file table following goes_on text_at text_length until_nul unsigned_in signed_in little_at signed_at bytes_at little_endian twos_complement relative_address relative_pointer descriptor row_name slot_row rows_from rows kind_of header_in header header_at slot_name name_at name context_name with_name context_read chain hops qualified_name too_deep name_answer digit hex decimal kind_word name_text row_line end_line lines printed kept_rows open_bundle answer taken_at is_at body_fits section_in part_of numbers
cut_bundles_worked = record { clue_whole = refl; oak_whole = refl; clue_said = refl; oak_said = refl }

-- so this is what they print, by the law
pub clue_27_printed : printed clue' ≡ ending 48 ∷ []
clue_27_printed = cut_printed clue clue' (layout 33) (layout 27) 27 met.clue_27 clue_clear ∙ cut_bundles_worked.clue_said

pub oak_107_printed : printed oak' ≡ line_of 52 class (letters "Oak") ∷ ending 49 ∷ []
oak_107_printed = cut_printed oak oak' (layout 113) (layout 107) 107 met.oak_107 oak_clear ∙ cut_bundles_worked.oak_said
