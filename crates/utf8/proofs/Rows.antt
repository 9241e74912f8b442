-- What must follow a byte, from the number of the row that it starts: one law for every lead byte. Assumes nothing.
use Rattle.std.specs.Prelude.{◌≡◌, ℕ, zero, suc, ◌≤◌, List, [], ◌∷◌, Option, Some, None}
use mathlib.Core.Path.{refl}
use Rattle.utf8.specs.Table.{ByteRange}
use Rattle.utf8.specs.Text.{following}
use Rattle.utf8.specs.Utf8Laws.{within_true, within_false}

-- b starts row k and none before it; no row at all if there are fewer rows
abbrev pub Row : ℕ → List (List ByteRange) → ℕ → Type 0
Row k [] b = Unit {0}
Row k ([] ∷ rows) b = Row k rows b
Row zero ((r ∷ rs) ∷ rows) b = (r.low ≤ b) × (b ≤ r.high)
Row (suc k) ((r ∷ rs) ∷ rows) b = (r.low ≤ b → b ≤ r.high → ⊥) × Row k rows b

abbrev pub after : ℕ → List (List ByteRange) → Option (List ByteRange)
after k [] = None
after k ([] ∷ rows) = after k rows
after zero ((r ∷ rs) ∷ rows) = Some rs
after (suc k) ((r ∷ rs) ∷ rows) = after k rows

pub in_row : (k : ℕ) (rows : List (List ByteRange)) (b : ℕ) → Row k rows b → after k rows ≡ following rows b
unfolding following
in_row k [] b h = refl
in_row k ([] ∷ rows) b h = in_row k rows b h
in_row zero ((r ∷ rs) ∷ rows) b h = rw (within_true r b h.0 h.1, following)
in_row (suc k) ((r ∷ rs) ∷ rows) b h = rw (within_false r b h.0, following) (in_row k rows b h.1)
