-- docs/SPECIFICATION.md, "Calls for C". The answer of the call over full rows as numbers.
use Rattle.std.specs.Prelude.{ℕ, List, [], ◌∷◌}
use Rattle.c_numbers.specs.Flags.{flag_number}
use Rattle.full_rows.specs.declared.rows.Given.{Given}

-- how many records, the slot to go on from, and 1 if all rows are given
abbrev pub given_numbers : Given → List ℕ
given_numbers g = g.records ∷ (g.next ∷ (flag_number g.all ∷ []))
