-- Whole tables of entries into the caller's list of numbers: docs/SPECIFICATION.md, "Whole tables".
use Rattle.std.specs.Prelude.{◌≡◌, ℕ, zero, suc, ◌+◌, ◌-◌, ◌*◌, ◌/◌, ◌^◌, ◌<◌, ◌≤◌, cond, List, [], ◌∷◌, ◌++◌, length, take, drop, nat_le, nat_lt, Option, Some, None, Result}
use Rattle.util.specs.Buffer.{pasted, at_start, overwritten}
use Rattle.refusal.specs.Refusal.{Guarded, answered, outcome, mapped, answer_of}
use Rattle.refusal.specs.declared.Refusal.{Refusal}
use Rattle.refusal.specs.Guarded.{guarded}
use Rattle.runtime.specs.Reads.{bytes_place}
use Rattle.vtable.specs.Entries.{Layout, shape_words, Entry, entry_size, entry_of, entry_step}
use Rattle.vtable.specs.declared.entry.TableEntry.{TableEntry}
use Rattle.vtable.specs.declared.shape.Shape.{Shape}
use Rattle.vtable.specs.declared.iter.EntryIter.{EntryIter}
use Rattle.entry_tables.specs.declared.window.Window.{Window}
use Rattle.entry_tables.specs.declared.list.Listed.{Listed}
use Rattle.entry_tables.specs.declared.list.Stop.{Stop}

-- ---- the answer

-- an entry's numbers: its address, and what its words say
abbrev pub entry_numbers : Entry → List ℕ
entry_numbers e = e.address ∷ e.words

-- the numbers of the entries, how many entries there are, and why there are no more: 0 the table ends, 1 the list is full, 2 the next
-- entry cannot be read
pub record WholeTable : Type 0 where
  pub numbers : List ℕ
  pub entries : ℕ
  pub stop : ℕ

abbrev pub empty_table : ℕ → WholeTable
empty_table stop = record { numbers = []; entries = 0; stop = stop }

abbrev pub entry_then : (Entry → List ℕ) → Entry → WholeTable → WholeTable
entry_then f e t = record { numbers = f e ++ t.numbers; entries = suc t.entries; stop = t.stop }

-- why a list with no room for entry `k` ends: it is full, unless the table ends there
abbrev pub stop_at : ℕ → ℕ → ℕ
stop_at k count = cond (nat_lt k count) 1 0

-- the entries from a walk's position up to the first that cannot be read, at most a given number of them, each by the numbers that `f`
-- gives for it
unfoldable pub table_by : (Entry → List ℕ) → List ℕ → List ℕ → Layout → ℕ → EntryIter → WholeTable
table_by f image segments l zero c = empty_table (stop_at c.next c.count)
table_by f image segments l (suc n) c =
    elim (entry_step image segments l c) [
      | None ↦ empty_table 0
      | Some s ↦ elim s.found [ None ↦ empty_table 2 | Some e ↦ entry_then f e (table_by f image segments l n s.next) ]
    ]

abbrev pub table_from : List ℕ → List ℕ → Layout → ℕ → EntryIter → WholeTable
table_from = table_by entry_numbers

-- how many numbers an entry has, and how many entries a list of `n` numbers holds
abbrev pub width : Layout → ℕ
width l = suc (length l.words)

abbrev pub entries_room : Layout → ℕ → ℕ
entries_room l n = n / width l

-- the table as a caller's list of `n` numbers holds it
abbrev pub table_in : List ℕ → List ℕ → Layout → EntryIter → ℕ → WholeTable
table_in image segments l c n = table_from image segments l (entries_room l n) c

-- the same for the caller's list, unless the segments' numbers are refused
abbrev pub guarded_table : List ℕ → List ℕ → Layout → EntryIter → List ℕ → Guarded WholeTable
guarded_table image segments l c buffer = guarded segments (answered (table_in image segments l c (length buffer)))

-- the call's answer: the two numbers; the others are in the caller's list
pub record Counts : Type 0 where
  pub entries : ℕ
  pub stop : ℕ

abbrev pub counts : WholeTable → Counts
counts t = record { entries = t.entries; stop = t.stop }

abbrev pub table_numbers : WholeTable → List ℕ
table_numbers t = t.numbers

-- the number of a reason
abbrev pub stop_number : Stop → ℕ
stop_number Stop.Ended = 0
stop_number Stop.Full = 1
stop_number Stop.Unreadable = 2

abbrev pub listed_counts : Listed → Counts
listed_counts l = record { entries = l.entries; stop = stop_number l.stop }

abbrev pub table_answer : Result Listed Refusal → Guarded Counts
table_answer r = mapped listed_counts (outcome r)

-- the caller's list after the call
abbrev pub buffer_with : Guarded WholeTable → List ℕ → List ℕ
buffer_with g buffer = overwritten buffer (answer_of (mapped table_numbers g))

-- what a call promises: its answer, and the caller's list after it
pub record GivesTable (g : Guarded WholeTable) (buffer : List ℕ) (r : Result Listed Refusal) (buffer' : List ℕ) : Type 0 where
  pub answers : table_answer r ≡ mapped counts g
  pub holds : buffer' ≡ buffer_with g buffer

-- ---- inside: the entries that the code knows, by their shape

abbrev pub shape_layout : Shape → ℕ → Layout
shape_layout s stride = record { words = shape_words s; stride = stride }

-- the words of an entry that has some pointers after its first word
abbrev pub words_in : ℕ → TableEntry → List ℕ
words_in zero e = e.first ∷ []
words_in (suc zero) e = e.first ∷ (e.second ∷ [])
words_in (suc (suc n)) e = e.first ∷ (e.second ∷ (e.third ∷ []))

-- where an entry of a size lies in the image: nowhere if one of its words does not lie below 2^64
unfoldable pub entry_place : List ℕ → List ℕ → ℕ → ℕ → Option ℕ
entry_place image segments size a = cond (nat_le (2 ^ 64) (a + (size - 4))) None (bytes_place image segments a size)

-- the entry at an address lies at a place, and each that starts at most `last` bytes after that address lies as far after that place; or it
-- lies nowhere
abbrev pub Opens : List ℕ → List ℕ → ℕ → ℕ → Option Window → Type 0
Opens image segments size a (Some w) = (i : ℕ) → i ≤ w.last → Some (w.place + i) ≡ entry_place image segments size (a + i)
Opens image segments size a None = None ≡ entry_place image segments size a

-- the numbers of entries that lie one after the other from a place of the image on; the first is at an address
abbrev pub run_numbers : List ℕ → Layout → ℕ → ℕ → ℕ → List ℕ
run_numbers image l o a zero = []
run_numbers image l o a (suc n) = run_numbers image l o a n ++ entry_numbers (entry_of l (a + l.stride * n) (take (entry_size l) (drop (o + l.stride * n) image)))

-- a run of entries was put at a place of the list: `n` of at most `most`, each at most `last` bytes from the first
pub record PutRun (image : List ℕ) (l : Layout) (o last a most : ℕ) (buffer : List ℕ) (at n : ℕ) (buffer' : List ℕ) : Type 0 where
  pub few : n ≤ most
  pub any : 0 < most → 0 < n
  pub within : (i : ℕ) → i < n → l.stride * i ≤ last
  pub holds : buffer' ≡ pasted buffer at (run_numbers image l o a n)

-- a table was listed: the answer, and the caller's list after it
abbrev pub Lists : WholeTable → List ℕ → Listed → List ℕ → Type 0
Lists t buffer r buffer' = (listed_counts r ≡ counts t) × (buffer' ≡ at_start (table_numbers t) buffer)
