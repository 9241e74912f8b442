-- docs/SPECIFICATION.md, "Calls for C". The answers of the calls over tables as numbers: a step's, and a whole table's.
use Rattle.std.specs.Prelude.{ℕ, ◌+◌, ◌≡◌, List, [], ◌∷◌, take}
use Rattle.refusal.specs.Refusal.{Guarded, mapped}
use Rattle.vtable.specs.declared.iter.EntryIter.{EntryIter}
use Rattle.vtable.specs.declared.iter.EntryStep.{EntryStep}
use Rattle.entry_tables.specs.Tables.{WholeTable, Counts, counts, buffer_with}
use Rattle.c_rows.specs.Numbers.{Tells}

abbrev pub cursor_at : ℕ → ℕ → ℕ → EntryIter
cursor_at base count next = record { base_va = base; count = count; next = next }

-- 1, the next entry's number, the entry's address and its words; for an unreadable entry 2, the next entry's number, and zeros; at the end
-- only zeros
abbrev pub step_numbers : EntryStep → List ℕ
step_numbers (EntryStep.Entry e c) = 1 ∷ (c.next ∷ (e.address ∷ (e.first ∷ (e.second ∷ (e.third ∷ [])))))
step_numbers (EntryStep.Unreadable c) = 2 ∷ (c.next ∷ (0 ∷ (0 ∷ (0 ∷ (0 ∷ [])))))
step_numbers EntryStep.End = 0 ∷ (0 ∷ (0 ∷ (0 ∷ (0 ∷ (0 ∷ [])))))

-- for entries of `n` words
abbrev pub entry_step_numbers : ℕ → EntryStep → List ℕ
entry_step_numbers n s = take (3 + n) (step_numbers s)

-- how many entries, and why no more
abbrev pub count_numbers : Counts → List ℕ
count_numbers c = c.entries ∷ (c.stop ∷ [])

-- what a call returns, and the caller's buffer after it
pub record TellsTable (g : Guarded WholeTable) (out buffer : List ℕ) (r : ℕ) (out' buffer' : List ℕ) : Type 0 where
  pub tells : Tells (mapped count_numbers (mapped counts g)) out r out'
  pub holds : buffer' ≡ buffer_with g buffer
