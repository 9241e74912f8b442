-- What a call writes for the answer of a call of `entry_tables`.
use Rattle.std.specs.Prelude.{ℕ, List, Result}
use Rattle.std.proofs.Common.{subst}
use Rattle.refusal.specs.Refusal.{Guarded, mapped}
use Rattle.entry_tables.specs.Tables.{WholeTable, Counts, counts, table_answer, GivesTable}
use Rattle.entry_tables.specs.declared.list.Listed.{Listed}
use Rattle.refusal.specs.declared.Refusal.{Refusal}
use Rattle.c_rows.specs.Numbers.{Tells}
use Rattle.c_tables.specs.Tables.{count_numbers, TellsTable}

pub tells_table : (g : Guarded WholeTable) (a : Result Listed Refusal) (b b' out out' : List ℕ) (r : ℕ) → GivesTable g b a b' → Tells (mapped count_numbers (table_answer a)) out r out'
    → TellsTable g out b r out' b'
tells_table g a b b' out out' r e t = record { tells = subst (λ (x : Guarded Counts). Tells (mapped count_numbers x) out r out') e.answers t; holds = e.holds }
