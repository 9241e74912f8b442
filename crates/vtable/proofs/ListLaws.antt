-- What stepping gives, for every layout at once: the step after `k` steps from the start gives what the program of entry `k` gives, as long
-- as no earlier entry is unreadable (`stepped-entry`); and the list of a caller who steps up to an unreadable entry or the end has the
-- entries whose programs answer, in order, and no others (`entries-listed-all`).
use Rattle.std.specs.Prelude.{◌≡◌, ℕ, zero, suc, ◌+◌, ◌<◌, ◌≤◌, Bool, true, false, cond, List, [], ◌∷◌, length, ◌≢◌, nat_lt, Option, Some, None, slice_get}
use Rattle.std.proofs.Math.Decide.{dec_lt}
use Rattle.std.proofs.Common.{add-one, ◌∙◌, lt-ltb, le-ltb}
use native.Mathlib.Omega.{arith}
use Rattle.std.proofs.Math.Path.{refl, sym, ap}
use Rattle.runtime.specs.Reads.{nothing, and_then, run}
use Rattle.runtime.proofs.ReadsLaws.{run_bind}
use Rattle.vtable.specs.declared.iter.EntryIter.{EntryIter}
use Rattle.vtable.specs.Entries.{Layout, Entry, entry_at, up_to, entry, start, Step, entry_step}
use Rattle.vtable.proofs.EntriesLaws.{step_end, step_gives}
use Rattle.vtable.specs.Listed.{listed_entries}

-- a walk over the same table at entry `k`
abbrev pub iter_at : ℕ → ℕ → ℕ → EntryIter
iter_at base count k = record { base_va = base; count = count; next = k }

module _ (image segments : List ℕ) (layout : Layout) where
  -- ---- by number

  -- what the step after `n` steps gives; a step moves on past an unreadable entry
  unfoldable pub step_after : ℕ → EntryIter → Option Step
  step_after zero c = entry_step image segments layout c
  step_after (suc n) c = elim (entry_step image segments layout c) [ None ↦ None | Some s ↦ step_after n s.next ]

  after_by : (n : ℕ) (c : EntryIter) (x : Option Step) → entry_step image segments layout c ≡ x
      → step_after (suc n) c ≡ (elim x as (λ _. Option Step) [ None ↦ None | Some s ↦ step_after n s.next ])
  unfolding step_after
  after_by n c x e = rw (step_after, e)

  module _ (base count : ℕ) where
    pub step_after_lem : (n k : ℕ) → step_after n (iter_at base count k) ≡ entry_step image segments layout (iter_at base count (n + k))
    unfolding step_after
    step_after_lem zero k = ap (λ (j : ℕ). entry_step image segments layout (iter_at base count j)) (omega arith)
    step_after_lem (suc n) k = go (step_after_lem n) (dec_lt k count)
      where
        go : ((j : ℕ) → step_after n (iter_at base count j) ≡ entry_step image segments layout (iter_at base count (n + j))) → Dec (k < count)
            → step_after (suc n) (iter_at base count k) ≡ entry_step image segments layout (iter_at base count (suc n + k))
        go ih (yes l) =
            after_by n (iter_at base count k) _ (sym (step_gives image segments layout (iter_at base count k) _ refl l))
            ∙ ih (k + 1)
            ∙ ap (λ (j : ℕ). entry_step image segments layout (iter_at base count j)) (omega arith)
        go ih (no l) =
            after_by n (iter_at base count k) None (sym (step_end image segments layout (iter_at base count k) (omega arith)))
            ∙ step_end image segments layout (iter_at base count (suc n + k)) (omega arith)

    -- no earlier entry is unreadable
    abbrev pub Readable : ℕ → Type 0
    Readable k = (j : ℕ) → j < k → run image segments (entry_at layout base j) ≢ None

    up_to_run : (k : ℕ) → Readable k → run image segments (up_to layout base k) ≡ run image segments (entry_at layout base k)
    unfolding up_to
    up_to_run zero r = refl
    up_to_run (suc k) r = run_bind image segments (λ _. entry_at layout base (suc k)) (up_to layout base k) ∙ rw (up_to_run k (λ j l. r j (omega arith))) (go (run image segments (entry_at layout base k)) refl)
      where
        go : (x : Option Entry) → run image segments (entry_at layout base k) ≡ x → and_then x (λ _. run image segments (entry_at layout base (suc k))) ≡ run image segments (entry_at layout base (suc k))
        go None e = absurd (r k (omega arith) e)
        go (Some a) e = refl

    -- stepping k + 1 times gives what the program of entry k gives
    pub stepped_entry : (k : ℕ) → k < count → Readable k
        → step_after k (start base count) ≡ Some (record { found = run image segments (entry layout base count k); next = iter_at base count (k + 1) })
    unfolding entry
    stepped_entry k l r =
        step_after_lem k 0
        ∙ ap (λ (j : ℕ). entry_step image segments layout (iter_at base count j)) (omega arith)
        ∙ sym (step_gives image segments layout (iter_at base count k) _ (simp (lt-ltb k count l) (up_to_run k r)) l)

    -- and past the last entry the end
    pub stepped_entries_end : (k : ℕ) → count ≤ k → step_after k (start base count) ≡ None
    stepped_entries_end k l = step_after_lem k 0 ∙ sym (step_end image segments layout (iter_at base count (k + 0)) (omega arith))

  -- ---- as a list

  module _ (base count : ℕ) where
    -- entry `k` from entry `i` on: the entries `i` to `i` + `k` are read
    unfoldable from : ℕ → ℕ → Option Entry
    from i zero = run image segments (entry_at layout base i)
    from i (suc k) = and_then (run image segments (entry_at layout base i)) (λ _. from (suc i) k)

    then_then : (x y : Option Entry) (z : Option Entry) → and_then x (λ _. and_then y (λ _. z)) ≡ and_then (and_then x (λ _. y)) (λ _. z)
    then_then None y z = refl
    then_then (Some a) y z = refl

    from_last : (k i : ℕ) → from i (suc k) ≡ and_then (from i k) (λ _. run image segments (entry_at layout base (suc (k + i))))
    unfolding from
    from_last zero i = ap (λ (j : ℕ). and_then (run image segments (entry_at layout base i)) (λ _. run image segments (entry_at layout base (suc j)))) (omega arith)
    from_last (suc k) i =
        ap (λ (x : Option Entry). and_then (run image segments (entry_at layout base i)) (λ _. x)) (from_last k (suc i))
        ∙ then_then (run image segments (entry_at layout base i)) (from (suc i) k) _
        ∙ ap (λ (j : ℕ). and_then (from i (suc k)) (λ _. run image segments (entry_at layout base (suc j)))) (omega arith)

    from_start : (k : ℕ) → from 0 k ≡ run image segments (up_to layout base k)
    unfolding up_to from
    from_start zero = refl
    from_start (suc k) =
        from_last k 0
        ∙ ap (λ (x : Option Entry). and_then x (λ _. run image segments (entry_at layout base (suc (k + 0))))) (from_start k)
        ∙ ap (λ (j : ℕ). and_then (run image segments (up_to layout base k)) (λ _. run image segments (entry_at layout base (suc j)))) (omega arith)
        ∙ sym (run_bind image segments (λ _. entry_at layout base (suc k)) (up_to layout base k))

    listed_by : (n i : ℕ) → i < count → (x : Option Entry) → run image segments (entry_at layout base i) ≡ x
        → listed_entries image segments layout (suc n) (iter_at base count i) ≡ (elim x as (λ _. List Entry) [ None ↦ [] | Some e ↦ e ∷ listed_entries image segments layout n (iter_at base count (i + 1)) ])
    unfolding listed_entries
    listed_by n i l x e = rw (listed_entries, sym (step_gives image segments layout (iter_at base count i) x (sym e) l))

    listed_none : (n i : ℕ) → count ≤ i → listed_entries image segments layout n (iter_at base count i) ≡ []
    unfolding listed_entries
    listed_none zero i l = refl
    listed_none (suc n) i l = rw (listed_entries, sym (step_end image segments layout (iter_at base count i) l))

    from_none : (i k : ℕ) → run image segments (entry_at layout base i) ≡ None → from i k ≡ None
    unfolding from
    from_none i zero e = e
    from_none i (suc k) e = rw e

    from_some : (i k : ℕ) (a : Entry) → run image segments (entry_at layout base i) ≡ Some a → from i (suc k) ≡ from (i + 1) k
    unfolding from
    from_some i k a e = rw (e, add-one)

    cond_none : (b : Bool) → ◌≡◌ {A = Option Entry} (cond b None None) None
    cond_none true = refl
    cond_none false = refl

    -- what a list has at place `k`
    abbrev place : ℕ → ℕ → Option Entry
    place i k = cond (nat_lt (k + i) count) (from i k) None

    place_none : (i k : ℕ) → run image segments (entry_at layout base i) ≡ None → place i k ≡ None
    place_none i k e = rw (from_none i k e) (cond_none (nat_lt (k + i) count))

    place_some : (i k : ℕ) (a : Entry) → run image segments (entry_at layout base i) ≡ Some a → place i (suc k) ≡ place (i + 1) k
    place_some i k a e =
        let j : suc k + i ≡ k + (i + 1) = omega arith in
        rw (from_some i k a e, j)

    place_first : (i : ℕ) (a : Entry) → i < count → run image segments (entry_at layout base i) ≡ Some a → place i 0 ≡ Some a
    unfolding from
    place_first i a l e = let j : 0 + i < count = omega arith in simp (lt-ltb (0 + i) count j) e

    place_past : (i k : ℕ) → count ≤ i → place i k ≡ None
    place_past i k l = let j : count ≤ k + i = omega arith in simp (le-ltb (k + i) count j)

    listed_at : (n i k : ℕ) → k < n → slice_get (listed_entries image segments layout n (iter_at base count i)) k ≡ place i k
    listed_at zero i k l = absurd (omega arith)
    listed_at (suc n) i k l = go (listed_at n (i + 1)) (dec_lt i count)
      where
        with_first : ((j : ℕ) → j < n → slice_get (listed_entries image segments layout n (iter_at base count (i + 1))) j ≡ place (i + 1) j) → i < count
            → (x : Option Entry) → run image segments (entry_at layout base i) ≡ x → (k : ℕ) → k < suc n
            → slice_get (elim x as (λ _. List Entry) [ None ↦ [] | Some e ↦ e ∷ listed_entries image segments layout n (iter_at base count (i + 1)) ]) k ≡ place i k
        with_first ih h None e k l = sym (place_none i k e)
        with_first ih h (Some a) e zero l = sym (place_first i a h e)
        with_first ih h (Some a) e (suc k) l = ih k (omega arith) ∙ sym (place_some i k a e)

        go : ((j : ℕ) → j < n → slice_get (listed_entries image segments layout n (iter_at base count (i + 1))) j ≡ place (i + 1) j) → Dec (i < count)
            → slice_get (listed_entries image segments layout (suc n) (iter_at base count i)) k ≡ place i k
        go ih (yes h) = rw (listed_by n i h (run image segments (entry_at layout base i)) refl) (with_first ih h (run image segments (entry_at layout base i)) refl k l)
        go ih (no h) = rw (listed_none (suc n) i (omega arith)) (sym (place_past i k (omega arith)))

    -- entry `k` of the list of a caller who steps `n` times is what its program reads
    pub listed_entry : (n k : ℕ) → k < n → slice_get (listed_entries image segments layout n (start base count)) k ≡ run image segments (entry layout base count k)
    unfolding entry run
    listed_entry n k l = listed_at n 0 k l ∙ rw (from_start k) (ap (λ (j : ℕ). cond (nat_lt j count) (run image segments (up_to layout base k)) None) (omega arith) ∙ go (nat_lt k count))
      where
        go : (b : Bool) → cond b (run image segments (up_to layout base k)) None ≡ run image segments (cond b (up_to layout base k) nothing)
        go true = refl
        go false = refl

    few : (n i : ℕ) → length (listed_entries image segments layout n (iter_at base count i)) ≤ n
    unfolding listed_entries
    few zero i = omega arith
    few (suc n) i = go (few n (i + 1)) (dec_lt i count)
      where
        with_first : length (listed_entries image segments layout n (iter_at base count (i + 1))) ≤ n → (x : Option Entry)
            → length {A = Entry} (elim x as (λ _. List Entry) [ None ↦ [] | Some e ↦ e ∷ listed_entries image segments layout n (iter_at base count (i + 1)) ]) ≤ suc n
        with_first ih None = omega arith
        with_first ih (Some a) = omega arith

        go : length (listed_entries image segments layout n (iter_at base count (i + 1))) ≤ n → Dec (i < count) → length (listed_entries image segments layout (suc n) (iter_at base count i)) ≤ suc n
        go ih (yes h) = rw (listed_by n i h (run image segments (entry_at layout base i)) refl) (with_first ih (run image segments (entry_at layout base i)))
        go ih (no h) = rw (listed_none (suc n) i (omega arith)) (omega arith)

    -- past a list's end there is nothing
    past_end : (l : List Entry) (k : ℕ) → length l ≤ k → slice_get l k ≡ None
    past_end [] k h = refl
    past_end (a ∷ l) zero h = absurd (omega arith)
    past_end (a ∷ l) (suc k) h = past_end l k (omega arith)

    -- the list of a caller who steps to the end: its entry `k` is what the program of entry `k` reads, for every `k`
    pub entries_listed_all : (n k : ℕ) → count ≤ n → slice_get (listed_entries image segments layout n (start base count)) k ≡ run image segments (entry layout base count k)
    unfolding entry run
    entries_listed_all n k c = go (dec_lt k n)
      where
        go : Dec (k < n) → slice_get (listed_entries image segments layout n (start base count)) k ≡ run image segments (entry layout base count k)
        go (yes l) = listed_entry n k l
        go (no l) = past_end (listed_entries image segments layout n (start base count)) k (omega (arith, few n 0)) ∙ simp (le-ltb k count (omega arith))
