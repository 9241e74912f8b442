-- The numbers of an enumeration's values: docs/SPECIFICATION.md, "Kinds and flags".
use Rattle.std.specs.Prelude.{ℕ, suc, cond, List, [], ◌∷◌, eqb}

-- values whose numbers follow one another, from n on
abbrev pub numbered {ℓ} : {A : Type ℓ} → ℕ → List A → List (ℕ × A)
numbered n [] = []
numbered n (a ∷ rest) = (n, a) ∷ numbered (suc n) rest

-- the value of the first row that has the number; `other` where none has it
abbrev pub value_of {ℓ} : {A : Type ℓ} → List (ℕ × A) → A → ℕ → A
value_of [] other n = other
value_of ((k, a) ∷ rows) other n = cond (eqb n k) a (value_of rows other n)
