-- As many records of a section's rows as the caller's buffer has room for, and where to go on: docs/SPECIFICATION.md, "The caller's
-- buffers". The calls differ in what a record has: a fixed number of numbers (crate `full_rows`), or bytes with a name (crate `c_listing`).
use Rattle.std.specs.Prelude.{ℕ, ◌-◌, max, Bool, true, false, cond, List, [], ◌∷◌, ◌++◌, length, nat_le}
use Rattle.typedescriptor.specs.Row.{TypeRow}
use Rattle.typedescriptor.specs.Slots.{slots, Found, rows_from}

-- what is written of a row, by its slot
abbrev pub RowRecord : Type 0
RowRecord = ℕ → TypeRow → List ℕ

-- what is written in all, the slot to go on from, and whether all rows are given
pub record RowsGiven : Type 0 where
  pub written : List ℕ
  pub next : ℕ
  pub all : Bool

abbrev pub stops_at : ℕ → Bool → RowsGiven
stops_at i all = record { written = []; next = i; all = all }

abbrev pub record_then : List ℕ → RowsGiven → RowsGiven
record_then t l = record { written = t ++ l.written; next = l.next; all = l.all }

-- the records of these rows up to the first for which there is no room; its slot is the one to go on from, or `past` if all are given
unfoldable pub given_in : RowRecord → ℕ → List Found → ℕ → RowsGiven
given_in recordOf past [] room = stops_at past true
given_in recordOf past (f ∷ fs) room =
    cond (nat_le (length (recordOf f.slot f.row)) room)
    (record_then (recordOf f.slot f.row) (given_in recordOf past fs (room - length (recordOf f.slot f.row))))
    (stops_at f.slot false)

-- those of a section from slot `i` on
abbrev pub rows_given : RowRecord → List ℕ → List ℕ → List ℕ → ℕ → ℕ → ℕ → RowsGiven
rows_given recordOf image segments types start i room =
    given_in recordOf (max (slots types) i) (rows_from image segments types start (slots types - i) i) room
