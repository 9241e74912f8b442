-- What an enumeration's rows give to a number, from the place of its row: one law for every `match`. Assumes nothing.
use Prim.Native.Nat.{ℕ, zero, suc}
use mathlib.Core.Path.{◌≡◌, refl}
use mathlib.Core.List.{List, [], ◌∷◌}
use borrow.Author.Tests.{eq-eqb, ne_eqb}
use Rattle.context.specs.Enumeration.{value_of}

-- n has row i and none before it; no row at all if there are fewer rows
abbrev pub Row {ℓ} : {A : Type ℓ} → ℕ → List (ℕ × A) → ℕ → Type 0
Row i [] n = Unit {0}
Row zero ((k, a) ∷ rows) n = n ≡ k
Row (suc i) ((k, a) ∷ rows) n = (n ≡ k → ⊥) × Row i rows n

abbrev pub value {ℓ} : {A : Type ℓ} → ℕ → List (ℕ × A) → A → A
value i [] other = other
value zero ((k, a) ∷ rows) other = a
value (suc i) ((k, a) ∷ rows) other = value i rows other

pub in_row {ℓ} : {A : Type ℓ} (i : ℕ) (rows : List (ℕ × A)) (other : A) (n : ℕ) → Row i rows n → value i rows other ≡ value_of rows other n
in_row i [] other n h = refl
in_row zero ((k, a) ∷ rows) other n h = rw (eq-eqb n k h)
in_row (suc i) ((k, a) ∷ rows) other n h = rw (ne_eqb n k h.0) (in_row i rows other n h.1)
