-- The rows of the definition are those of the slots that have one (`row_in`, `in_rows`), and stepping gives them: `n` steps give the first `n`
-- (`stepped-rows-take`), as many steps as there are slots give them all (`stepped-rows-all`, `stepped-rows`), and then none is left (`stepped-rows-end`).
use Rattle.std.specs.Prelude.{◌≡◌, ℕ, zero, suc, ◌+◌, ◌-◌, ◌<◌, ◌≤◌, List, [], ◌∷◌, length, take, Option, Some, None}
use Rattle.std.proofs.Common.{sub-eq-zero_of_le, add-one, sym, ◌∙◌, take_all}
use Rattle.std.proofs.Math.Decide.{dec_lt}
use native.Mathlib.Omega.{arith}
use Rattle.std.proofs.Math.Path.{refl, ap}
use mathlib.Core.List.Memᴰ
use mathlib.Core.List.{Memᴰ}
use Rattle.std.proofs.Math.Logic.{⊎_elim}
use Rattle.runtime.specs.Reads.{run}
use Rattle.typedescriptor.specs.Row.{TypeRow}
use Rattle.typedescriptor.specs.Slots.{slots, slot_row, Found, found, first_row, next_row, rows_from, rows}
use Rattle.typedescriptor.proofs.RowLaws.{past_slots, refers_nowhere, rows_end}
use Rattle.typedescriptor.specs.Steps.{stepped_rows, stepped_rows_to}

module _ (image segments types : List ℕ) (start : ℕ) where
  -- ---- the first row of some slots, and those after it

  first_left : (n i : ℕ) (f : Found) → Some f ≡ first_row image segments types start n i
      → (rows_from image segments types start n i ≡ f ∷ rows_from image segments types start (n + i - f.next) f.next) × (i < f.next) × (f.next ≤ n + i)
  unfolding first_row rows_from
  first_left zero i f e = let z : ◌≡◌ {A = ℕ} 0 1 = cc in absurd (omega arith)
  first_left (suc n) i f e = go (first_left n (suc i) f) (run image segments (slot_row types start i)) refl
    where
      go : (Some f ≡ first_row image segments types start n (suc i)
          → (rows_from image segments types start n (suc i) ≡ f ∷ rows_from image segments types start (n + suc i - f.next) f.next) × (suc i < f.next) × (f.next ≤ n + suc i))
          → (x : Option TypeRow) → run image segments (slot_row types start i) ≡ x
          → (rows_from image segments types start (suc n) i ≡ f ∷ rows_from image segments types start (suc n + i - f.next) f.next) × (i < f.next) × (f.next ≤ suc n + i)
      go further None t =
          let g : Some f ≡ first_row image segments types start n (suc i) = rw (first_row, t) at e in
          let w = further g in
          let k : n + suc i - f.next ≡ suc n + i - f.next = omega arith in
          (rw (rows_from, t) (w.0 ∙ ap (λ (m : ℕ). f ∷ rows_from image segments types start m f.next) k), omega (arith, w.1), omega (arith, w.2))
      go further (Some r) t =
          let g : Some f ≡ Some (found i r) = rw (first_row, t) at e in
          let q : f ≡ found i r = cc in
          let k : suc n + i - (i + 1) ≡ n = omega arith in
          rw q (rw (rows_from, t, k, add-one), omega arith, omega arith)

  none_first : (n i : ℕ) → None ≡ first_row image segments types start n i → rows_from image segments types start n i ≡ []
  unfolding first_row rows_from
  none_first zero i e = refl
  none_first (suc n) i e = go (none_first n (suc i)) (run image segments (slot_row types start i)) refl
    where
      go : (None ≡ first_row image segments types start n (suc i) → rows_from image segments types start n (suc i) ≡ [])
          → (x : Option TypeRow) → run image segments (slot_row types start i) ≡ x → rows_from image segments types start (suc n) i ≡ []
      go further None t = rw (rows_from, t) (further (rw (first_row, t) at e))
      go further (Some r) t =
          let g : ◌≡◌ {A = Option Found} None (Some (found i r)) = rw (first_row, t) at e in
          let z : ◌≡◌ {A = ℕ} 0 1 = cc in
          absurd (omega arith)

  module _ (i : ℕ) where
    pub row_left : (f : Found) → Some f ≡ next_row image segments types start i
        → (rows_from image segments types start (slots types - i) i ≡ f ∷ rows_from image segments types start (slots types - f.next) f.next) × (i < f.next) × (f.next ≤ slots types)
    unfolding next_row
    row_left f e =
        let w = first_left (slots types - i) i f e in
        let k : slots types - i + i - f.next ≡ slots types - f.next = omega (arith, w.1, w.2) in
        (w.0 ∙ ap (λ (m : ℕ). f ∷ rows_from image segments types start m f.next) k, w.1, omega (arith, w.1, w.2))

    pub none_left : None ≡ next_row image segments types start i → rows_from image segments types start (slots types - i) i ≡ []
    unfolding next_row
    none_left e = none_first (slots types - i) i e

  pub rows_start : rows image segments types start ≡ rows_from image segments types start (slots types - 0) 0
  unfolding rows
  rows_start = ap (λ (k : ℕ). rows_from image segments types start k 0) (omega arith)

  -- those from a slot on: its own, if it has one, and those from the next one on
  one_left : (i : ℕ) → i < slots types → slots types - i ≡ suc (slots types - (i + 1))
  one_left i h = omega arith

  pub slot_left : (i : ℕ) (r : TypeRow) → Some r ≡ run image segments (slot_row types start i) → i < slots types
      → rows_from image segments types start (slots types - i) i ≡ found i r ∷ rows_from image segments types start (slots types - (i + 1)) (i + 1)
  unfolding rows_from
  slot_left i r e h = rw (one_left i h, rows_from, ← e, add-one)

  pub slot_without : (i : ℕ) → None ≡ run image segments (slot_row types start i) → i < slots types
      → rows_from image segments types start (slots types - i) i ≡ rows_from image segments types start (slots types - (i + 1)) (i + 1)
  unfolding rows_from
  slot_without i e h = rw (one_left i h, rows_from, ← e, add-one)

  pub rows_out : (n i : ℕ) → n ≤ i → rows_from image segments types start (n - i) i ≡ []
  unfolding rows_from
  rows_out n i h = rw (sub-eq-zero_of_le h)

  pub rows_few : (n i : ℕ) → length (rows_from image segments types start n i) ≤ n
  unfolding rows_from
  rows_few zero i = omega arith
  rows_few (suc n) i = go (rows_few n (suc i)) (run image segments (slot_row types start i)) refl
    where
      go : length (rows_from image segments types start n (suc i)) ≤ n → (x : Option TypeRow) → run image segments (slot_row types start i) ≡ x
          → length (rows_from image segments types start (suc n) i) ≤ suc n
      go further None t = rw (rows_from, t) (omega arith)
      go further (Some r) t = rw (rows_from, t) (omega arith)

  -- ---- the rows are those of the slots that have one

  rows_hold : (n i j : ℕ) (r : TypeRow) → i ≤ j → j < n + i → run image segments (slot_row types start j) ≡ Some r → Memᴰ (found j r) (rows_from image segments types start n i)
  unfolding rows_from
  rows_hold zero i j r l h e = absurd (omega arith)
  rows_hold (suc n) i j r l h e = go (λ k. rows_hold n (suc i) j r k (omega arith) e) (run image segments (slot_row types start i)) refl (dec_lt i j)
    where
      go : (suc i ≤ j → Memᴰ (found j r) (rows_from image segments types start n (suc i)))
          → (x : Option TypeRow) → run image segments (slot_row types start i) ≡ x → Dec (i < j) → Memᴰ (found j r) (rows_from image segments types start (suc n) i)
      go further None t (yes k) = rw (rows_from, t) (further k)
      go further (Some q) t (yes k) = rw (rows_from, t) (Memᴰ.tail (further k))
      go further x t (no k) =
          let q : j ≡ i = omega arith in
          let here : run image segments (slot_row types start i) ≡ Some r = rw q at e in
          rw (rows_from, here) (Memᴰ.head (ap (λ (m : ℕ). found m r) q))

  rows_held : (n i : ℕ) (f : Found) → Memᴰ f (rows_from image segments types start n i)
      → (f ≡ found f.slot f.row) × (run image segments (slot_row types start f.slot) ≡ Some f.row)
  unfolding rows_from
  rows_held zero i f m = absurd (Memᴰ.not-nil m)
  rows_held (suc n) i f m = go (rows_held n (suc i) f) (run image segments (slot_row types start i)) refl
    where
      go : (Memᴰ f (rows_from image segments types start n (suc i)) → (f ≡ found f.slot f.row) × (run image segments (slot_row types start f.slot) ≡ Some f.row))
          → (x : Option TypeRow) → run image segments (slot_row types start i) ≡ x
          → (f ≡ found f.slot f.row) × (run image segments (slot_row types start f.slot) ≡ Some f.row)
      go further None t = further (rw (rows_from, t) at m)
      go further (Some r) t =
          ⊎_elim (λ (e : f ≡ found i r). rw e (refl, t)) further (Memᴰ.cases_cons (rw (rows_from, t) at m))

  pub row_in : (i : ℕ) (r : TypeRow) → run image segments (slot_row types start i) ≡ Some r → Memᴰ (found i r) (rows image segments types start)
  unfolding rows
  row_in i r e =
      elim (dec_lt i (slots types)) [
        | yes h ↦ rows_hold (slots types) 0 i r (omega arith) (omega arith) e
        | no h ↦
            let f : None ≡ Some r = refers_nowhere image segments types start i (past_slots types start i (omega arith)) ∙ e in
            let z : ◌≡◌ {A = ℕ} 0 1 = cc in
            absurd (omega arith)
      ]

  pub in_rows : (f : Found) → Memᴰ f (rows image segments types start)
      → (f ≡ found f.slot f.row) × (run image segments (slot_row types start f.slot) ≡ Some f.row)
  unfolding rows
  in_rows f m = rows_held (slots types) 0 f m

  -- ---- stepping

  pub stepped_rows_take : (n i : ℕ) → stepped_rows image segments types start n i ≡ take n (rows_from image segments types start (slots types - i) i)
  unfolding stepped_rows
  stepped_rows_take zero i = refl
  stepped_rows_take (suc n) i = go (λ j. stepped_rows_take n j) (next_row image segments types start i) refl
    where
      go : ((j : ℕ) → stepped_rows image segments types start n j ≡ take n (rows_from image segments types start (slots types - j) j))
          → (x : Option Found) → next_row image segments types start i ≡ x
          → stepped_rows image segments types start (suc n) i ≡ take (suc n) (rows_from image segments types start (slots types - i) i)
      go further None t = rw (stepped_rows, t, none_left i (sym t))
      go further (Some f) t = rw (stepped_rows, t, (row_left i f (sym t)).0) (ap (λ (l : List Found). f ∷ l) (further f.next))

  pub stepped_rows_all : (n i : ℕ) → slots types - i ≤ n → stepped_rows image segments types start n i ≡ rows_from image segments types start (slots types - i) i
  stepped_rows_all n i h = stepped_rows_take n i ∙ take_all n _ (omega (arith, rows_few (slots types - i) i))

  pub stepped_rows_lem : (n : ℕ) → slots types ≤ n → stepped_rows image segments types start n 0 ≡ rows image segments types start
  stepped_rows_lem n h = stepped_rows_all n 0 (omega arith) ∙ sym rows_start

  pub stepped_rows_end : (n i : ℕ) → slots types - i ≤ n → None ≡ next_row image segments types start (stepped_rows_to image segments types start n i)
  unfolding stepped_rows_to
  stepped_rows_end zero i h = rows_end image segments types start i (omega arith)
  stepped_rows_end (suc n) i h = go (λ j k. stepped_rows_end n j k) (next_row image segments types start i) refl
    where
      go : ((j : ℕ) → slots types - j ≤ n → None ≡ next_row image segments types start (stepped_rows_to image segments types start n j))
          → (x : Option Found) → next_row image segments types start i ≡ x
          → None ≡ next_row image segments types start (stepped_rows_to image segments types start (suc n) i)
      go further None t = rw (stepped_rows_to, t) (sym t)
      go further (Some f) t = rw (stepped_rows_to, t) (further f.next (omega (arith, row_left i f (sym t))))
