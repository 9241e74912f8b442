-- What a table of records with names says: it has as many records as the table without names, for the same reason no more (`named-counts`), in the
-- order in which stepping gives them (`named-listed`); each has that table's four numbers and, at the addresses among them, the names that the calls
-- for one name give (`named-record`); and a table worked through by hand (`named-worked`).
use Rattle.std.specs.Prelude.{ℕ, zero, suc, ◌+◌, ◌*◌, ◌<◌, ◌≡◌, refl, List, [], ◌∷◌, ◌++◌, length, take, drop, get_or, Option, Some, None}
use Rattle.std.proofs.Common.{mul-suc, arith, sym, ap, ◌∙◌, append_assoc, length-append, drop-drop, drop_at}
use Rattle.utf8.specs.Table.{table}
use Rattle.utf8.specs.Text.{following, goes_on, until_nul, text_length}
use Rattle.util.specs.Letters.{letters}
use Rattle.util.specs.LittleEndian.{little_endian, bytes_at, little_at, twos_complement, signed_at, unsigned_in, signed_in}
use Rattle.util.specs.Pointer.{relative_pointer, relative_address}
use Rattle.util.specs.declared.cstr.Place.{Place}
use Rattle.util.specs.Cstr.{text_at}
use Rattle.segment.specs.Segments.{segments_of, decides, in_file, file_offset}
use Rattle.runtime.specs.Reads.{within, bytes_place, text_offset, text_place, run}
use Rattle.runtime.specs.FieldName.{NamePlace, in_image, in_strings, section_text, field_name}
use Rattle.runtime.specs.PlaceNumbers.{text_numbers, field_numbers}
use Rattle.vtable.specs.Entries.{Layout, Entry, entry_at, entry_step}
use Rattle.vtable.specs.Listed.{listed_entries}
use Rattle.field.specs.declared.record.FieldRecordIter.{FieldRecordIter}
use Rattle.field.specs.Records.{record_layout, entries_of}
use Rattle.entry_tables.specs.Tables.{entry_numbers, WholeTable, counts, table_by, table_from}
use Rattle.entry_tables.proofs.TablesLaws.{numbers_of_all, table_listed, same_counts, Whole, listed_words}
use Rattle.named_records.specs.NamedRecords.{named_numbers, named_table}
use Rattle.named_records.proofs.NamedRecordsLaws.{text_long, name_long}

-- a record of three words, as its own numbers and as all ten
module _ (image segments strings : List ℕ) (start : ℕ) where
  abbrev all : Entry → List ℕ
  all = named_numbers image segments strings start

  -- the next record of a list with names, and of one without
  pub record Named (named own : List ℕ) : Type 0 where
    pub first : take 4 named ≡ take 4 own
    pub type_name : take 3 (drop 4 named) ≡ text_numbers (text_place image segments (get_or own 2 0))
    pub name : take 3 (drop 7 named) ≡ field_numbers (field_name image segments strings start (get_or own 3 0))

  text_first : (x : Option Place) (s : List ℕ) → take 3 (text_numbers x ++ s) ≡ text_numbers x
  text_first None s = refl
  text_first (Some p) s = refl

  text_past : (x : Option Place) (s : List ℕ) → drop 3 (text_numbers x ++ s) ≡ s
  text_past None s = refl
  text_past (Some p) s = refl

  name_first : (x : Option NamePlace) (s : List ℕ) → take 3 (field_numbers x ++ s) ≡ field_numbers x
  name_first None s = refl
  name_first (Some (in_image p)) s = refl
  name_first (Some (in_strings p)) s = refl

  named_entry : (e : Entry) → length e.words ≡ 3 → (r q : List ℕ) → Named (all e ++ r) (entry_numbers e ++ q)
  named_entry e h r q = go e.address e.words h
    where
      go : (a : ℕ) (ws : List ℕ) → length ws ≡ 3 → Named (all (record { address = a; words = ws }) ++ r) (entry_numbers (record { address = a; words = ws }) ++ q)
      go a [] h = absurd (omega arith)
      go a (f ∷ []) h = absurd (omega arith)
      go a (f ∷ (t ∷ [])) h = absurd (omega arith)
      go a (f ∷ (t ∷ (n ∷ []))) h =
          let x : Option Place = text_place image segments t in
          let y : Option NamePlace = field_name image segments strings start n in
          let split : (text_numbers x ++ field_numbers y) ++ r ≡ text_numbers x ++ (field_numbers y ++ r) = append_assoc (text_numbers x) (field_numbers y) r in
          record {
            first = refl;
            type_name = ap (take 3) split ∙ text_first x (field_numbers y ++ r);
            name = ap (λ (l : List ℕ). take 3 (drop 3 l)) split ∙ ap (take 3) (text_past x (field_numbers y ++ r)) ∙ name_first y r;
          }
      go a (f ∷ (t ∷ (n ∷ (m ∷ ws)))) h = absurd (omega arith)

  all_long : (e : Entry) → length e.words ≡ 3 → length (all e) ≡ 10
  all_long e h =
      let x : Option Place = text_place image segments (get_or e.words 1 0) in
      let y : Option NamePlace = field_name image segments strings start (get_or e.words 2 0) in
      let six : length (text_numbers x ++ field_numbers y) ≡ length (text_numbers x) + length (field_numbers y) = length-append (text_numbers x) (field_numbers y) in
      length-append (entry_numbers e) (text_numbers x ++ field_numbers y) ∙ omega (arith, six, text_long x, name_long y)

  -- one record on
  past : (each k : ℕ) (p s : List ℕ) → length p ≡ each → drop (each * suc k) (p ++ s) ≡ drop (each * k) s
  past each k p s h =
      let sum : each * suc k ≡ each + each * k = mul-suc each k ∙ omega arith in
      ap (λ (j : ℕ). drop j (p ++ s)) sum ∙ sym (drop-drop (each * k) each (p ++ s)) ∙ ap (drop (each * k)) (drop_at p s each h)

  module _ (c : FieldRecordIter) where
    abbrev layout : Layout
    layout = record_layout c.entry_size

    in_list : (es : List Entry) → Whole image segments layout es → (k : ℕ) → k < length es → Named (drop (10 * k) (numbers_of_all all es)) (drop (4 * k) (numbers_of_all entry_numbers es))
    in_list [] w k h = absurd (omega arith)
    in_list (e ∷ es) w zero h = named_entry e w.0 (numbers_of_all all es) (numbers_of_all entry_numbers es)
    in_list (e ∷ es) w (suc k) h =
        rw (past 10 k (all e) (numbers_of_all all es) (all_long e w.0), past 4 k (entry_numbers e) (numbers_of_all entry_numbers es) (ap suc w.0)) (in_list es w.1 k (omega arith))

    module _ (n : ℕ) where
      abbrev named : WholeTable
      named = named_table image segments strings start c n

      abbrev own : WholeTable
      own = table_from image segments layout n (entries_of c)

      pub named_counts : counts named ≡ counts own
      named_counts = same_counts all image segments layout entry_numbers n (entries_of c)

      pub named_listed : (named.numbers ≡ numbers_of_all all (listed_entries image segments layout n (entries_of c))) × (named.entries ≡ length (listed_entries image segments layout n (entries_of c)))
      named_listed = table_listed all image segments layout n (entries_of c)

      -- record `k` of the table
      pub named_record : (k : ℕ) → k < own.entries → Named (drop (10 * k) named.numbers) (drop (4 * k) own.numbers)
      named_record k h =
          let told = table_listed entry_numbers image segments layout n (entries_of c) in
          rw (named_listed.0, told.0) (in_list (listed_entries image segments layout n (entries_of c)) (listed_words image segments layout n (entries_of c)) k (omega (arith, told.1)))

-- ---- by examples

-- an image at 4096: a record with flags 2, its type's name 8 bytes after its slot, and its field's name a given number of bytes after its
-- slot (below 2^16); then the text "Si"
abbrev sample : ℕ → ℕ → List ℕ
sample low high = 2 ∷ 0 ∷ 0 ∷ 0 ∷ 8 ∷ 0 ∷ 0 ∷ 0 ∷ low ∷ high ∷ 0 ∷ 0 ∷ letters "Si" ++ 0 ∷ []

-- its records, in a list that claims to have two, with the text "x" in a string section at an address; the second cannot be read
abbrev listed_from : ℕ → ℕ → ℕ → ℕ → WholeTable
listed_from low high start n =
    named_table (sample low high) (4096 ∷ 15 ∷ 0 ∷ 15 ∷ []) (120 ∷ 0 ∷ []) start (record { base_va = 4096; count = 2; entry_size = 12; cursor = 0 }) n

abbrev one : List ℕ → WholeTable
one l = record { numbers = l; entries = 1; stop = 2 }

pub record NamedWorked : Type 0 where
  -- the field's name in the string section
  pub strings : listed_from 248 15 8192 5 ≡ one (4096 ∷ 2 ∷ 4108 ∷ 8192 ∷ 1 ∷ 12 ∷ 2 ∷ 2 ∷ 0 ∷ 1 ∷ [])
  -- in both: the image's
  pub image : listed_from 4 0 4108 5 ≡ one (4096 ∷ 2 ∷ 4108 ∷ 4108 ∷ 1 ∷ 12 ∷ 2 ∷ 1 ∷ 12 ∷ 2 ∷ [])
  -- in neither, and none at all
  pub neither : listed_from 248 15 8193 5 ≡ one (4096 ∷ 2 ∷ 4108 ∷ 8192 ∷ 1 ∷ 12 ∷ 2 ∷ 0 ∷ 0 ∷ 0 ∷ [])
  pub nameless : listed_from 0 0 0 5 ≡ one (4096 ∷ 2 ∷ 4108 ∷ 0 ∷ 1 ∷ 12 ∷ 2 ∷ 0 ∷ 0 ∷ 0 ∷ [])
  -- room for one, and for none
  pub full : listed_from 0 0 0 1 ≡ record { numbers = 4096 ∷ 2 ∷ 4108 ∷ 0 ∷ 1 ∷ 12 ∷ 2 ∷ 0 ∷ 0 ∷ 0 ∷ []; entries = 1; stop = 1 }
  pub no_room : listed_from 0 0 0 0 ≡ record { numbers = []; entries = 0; stop = 1 }

pub named_worked : NamedWorked
unfolding table_by entry_step entry_at run bytes_place within segments_of file_offset decides in_file unsigned_in signed_in little_at signed_at bytes_at little_endian twos_complement relative_address relative_pointer text_place text_offset text_at field_name section_text table following goes_on text_length until_nul
named_worked = record { strings = refl; image = refl; neither = refl; nameless = refl; full = refl; no_room = refl }
