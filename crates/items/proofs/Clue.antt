-- The image of docs/SPECIFICATION.md, "Items, paths and the cut", worked through: 33 bytes, one struct, its name at offset 28.
use Rattle.std.specs.Prelude.{ℕ, ◌≤◌, ◌<◌, ◌≡◌, refl, List, [], ◌∷◌, ◌++◌, take, Option, Some, None}
use Rattle.std.proofs.Common.{arith, inl, inr, ⊎_elim}
use Rattle.utf8.specs.Table.{table}
use Rattle.utf8.specs.Text.{following, goes_on, until_nul, text_length}
use Rattle.util.specs.Letters.{letters}
use Rattle.util.specs.LittleEndian.{little_endian, bytes_at, little_at, twos_complement, signed_at, unsigned_in, signed_in}
use Rattle.util.specs.Pointer.{relative_pointer, relative_address}
use Rattle.segment.specs.Segments.{segments_of, file_offset, decides, in_file}
use Rattle.util.specs.Cstr.{place, text_at}
use Rattle.runtime.specs.Reads.{within, bytes_place, text_offset, run, extent, Range, path, bind, All, Clear}
use Rattle.typedescriptor.specs.Row.{row_name, descriptor}
use Rattle.typedescriptor.specs.Slots.{slot_row}
use Rattle.items.specs.Keys.{Sections, Key, Answer}
use Rattle.items.specs.Items.{map_reads, item}
use Rattle.items.specs.Texts.{NameKey, descriptor_name, slot_name_address, name_of, ClearOf}
use Rattle.items.proofs.Worked.{Table, laid, one_slot, bytes_to, text_to, read_by, told_by}

-- the u32 17, 0, 20, 0, 0, 0, 0
abbrev head : List ℕ
head = 17 ∷ 0 ∷ 0 ∷ 0 ∷ 0 ∷ 0 ∷ 0 ∷ 0 ∷ 20 ∷ 0 ∷ 0 ∷ 0 ∷ 0 ∷ 0 ∷ 0 ∷ 0 ∷ 0 ∷ 0 ∷ 0 ∷ 0 ∷ 0 ∷ 0 ∷ 0 ∷ 0 ∷ 0 ∷ 0 ∷ 0 ∷ 0 ∷ []

-- then `Clue` and a NUL
abbrev pub clue_image : List ℕ
clue_image = head ++ (letters "Clue" ++ 0 ∷ [])

-- a name whose first byte is well-formed: 43 C0 80 is not a text
abbrev pub broken : List ℕ
broken = head ++ (67 ∷ 0xc0 ∷ 0x80 ∷ 0 ∷ [])

abbrev pub clue_segments : List ℕ
clue_segments = laid 33

abbrev pub clue_sections : Sections
clue_sections = one_slot 0

abbrev told : List ℕ → Option Answer
told i = told_by i clue_segments clue_sections (Key.row 0)

-- what its row reads in the whole image
abbrev row_reads : List Range
row_reads = read_by clue_image clue_segments clue_sections (Key.row 0)

-- a struct at 0x1000 whose name has these bytes, at offset 28
abbrev named : List ℕ → ℕ → Option Answer
named t n = Some (Answer.row (record { address = 0x1000; flags = 17; parent = 0; name = place 28 n; name_bytes = t }))

pub record ClueWorked : Type 0 where
  -- 20 bytes, and five of the name with its NUL
  pub reads : row_reads ≡ bytes_to 0 20 ∷ text_to 28 33 ∷ []
  pub says : Table told
      ((clue_image, named (letters "Clue") 4)
      -- cut before the name starts, the row is gone
      ∷ (take 27 clue_image, None)
      -- cut where it starts, there is a row with an empty name; then one with a piece of the name; the whole name without its NUL is a text
      -- too
      ∷ (take 28 clue_image, named [] 0)
      ∷ (take 30 clue_image, named (letters "Cl") 2)
      ∷ (take 32 clue_image, named (letters "Clue") 4)
      -- a name that is not well-formed makes no row, and a piece of it may: texts that are looked up and not found count too
      ∷ (broken, None)
      ∷ (take 29 broken, named (67 ∷ []) 1)
      ∷ [])
  -- the premise leaves out exactly the cuts from 28 to 32
  pub clear_below : (c : ℕ) → c < 28 → All (Clear c) row_reads
  pub clear_above : (c : ℕ) → 33 ≤ c → All (Clear c) row_reads
  pub not_clear : (c : ℕ) → 28 ≤ c → c < 33 → All (Clear c) row_reads → ⊥
  -- the same in terms of the name's address
  pub name_not_clear : (c : ℕ) → 28 ≤ c → c < 33 → ClearOf clue_image clue_segments clue_sections c (NameKey.descriptor 0) → ⊥

pub clue_worked : ClueWorked
unfolding run path bind bytes_place within text_offset extent segments_of file_offset decides in_file table following goes_on text_at text_length until_nul unsigned_in signed_in little_at signed_at bytes_at little_endian twos_complement relative_address relative_pointer descriptor row_name slot_row descriptor_name slot_name_address name_of map_reads item
clue_worked =
    record {
      reads = refl;
      says = refl;
      clear_below = λ c h. ((λ t. absurd (let z : ◌≡◌ {A = ℕ} 0 1 = cc in omega arith)), ((λ t. inl (omega arith)), tt));
      clear_above = λ c h. ((λ t. absurd (let z : ◌≡◌ {A = ℕ} 0 1 = cc in omega arith)), ((λ t. inr (omega arith)), tt));
      not_clear = λ c h g w. ⊎_elim (λ l. omega arith) (λ l. omega arith) (w.1.0 refl);
      name_not_clear = λ c h g w. ⊎_elim (λ l. omega arith) (λ l. omega arith) (w 0x101c refl 28 refl refl);
    }
