-- How the joined name is written, block by block: contexts are read one after the other, and their names are kept. This file is
-- for the functions that write it; no definition of a name rests on it.
use Rattle.std.specs.Prelude.{ℕ, zero, suc, ◌+◌, ◌-◌, ◌^◌, ◌≤◌, min, ◌≡◌, List, [], ◌∷◌, ◌++◌, Bool, true, false, cond, length, get_or, leb, ltb, Result, Ok, Err}
use Rattle.refusal.specs.Refusal.{Guarded, answered, refused}
use Rattle.refusal.specs.declared.Refusal.{Refusal}
use Rattle.util.specs.Buffer.{at_start}
use Rattle.util.specs.declared.cstr.Place.{Place}
use Rattle.util.specs.Cstr.{place, part_of}
use Rattle.parent.specs.Chain.{chain}
use Rattle.qualified_name.specs.Name.{hops}
use Rattle.qualified_name.specs.declared.name.Walk.{Walk}

-- whether more than `left` contexts can be read from an address on, and the hops of those that are read to see it
abbrev pub deeper : List ℕ → List ℕ → ℕ → ℕ → Bool
deeper image segments left a = leb (suc left) (length (chain image segments (suc left) a))

abbrev pub before : List ℕ → List ℕ → ℕ → ℕ → List ℕ
before image segments left a = hops (chain image segments (suc left) a)

-- the length of the hops of the contexts from an address on, of which `left` are allowed, before `rest` bytes: 4 if one more can be
-- read, 3 if hops and rest are longer than the buffer
unfoldable pub hops_answer : List ℕ → List ℕ → ℕ → ℕ → ℕ → ℕ → Guarded ℕ
hops_answer image segments left a rest size =
    cond (deeper image segments left a) (refused 4)
    (cond (ltb size (rest + length (before image segments left a))) (refused 3) (answered (length (before image segments left a))))

-- the buffer with a text at its start, unless the answer is a refusal
unfoldable pub filled : Guarded ℕ → List ℕ → List ℕ → List ℕ
filled (refused n) t buffer = buffer
filled (answered n) t buffer = at_start t buffer

-- the hops of the first `n` names, the last one first
unfoldable pub gathered : List ℕ → List Place → ℕ → List ℕ
gathered image names zero = []
gathered image names (suc n) =
    (part_of image (get_or names n (place 0 0)) ++ (46 ∷ [])) ++ gathered image names n

-- the number of bytes of the hops and of what comes after them, or 2^64 - 1 if it would be more
abbrev pub room : ℕ → List ℕ → ℕ
room rest hops = min (rest + length hops) (2 ^ 64 - 1)

-- the hops from address `a` on, where `left` contexts are allowed, are those from `a'` on, where `left'` are, and then those of the names
pub record Block (image segments : List ℕ) (left a rest : ℕ) (names : List Place) (count left' a' rest' : ℕ) : Type 0 where
  pub hops : before image segments left a ≡ before image segments left' a' ++ gathered image names count
  pub deep : deeper image segments left a ≡ deeper image segments left' a'
  pub bytes : rest' ≡ room rest (gathered image names count)
  pub few : count ≤ 8
  pub fewer : count + left' ≤ left

-- there is no context after those of the names
pub record Last (image segments : List ℕ) (left a rest : ℕ) (names : List Place) (count rest' : ℕ) : Type 0 where
  pub hops : before image segments left a ≡ gathered image names count
  pub deep : deeper image segments left a ≡ false
  pub bytes : rest' ≡ room rest (gathered image names count)
  pub few : count ≤ 8

-- what a walk from `a` on ended with, and the names that it kept
abbrev pub Walked : List ℕ → List ℕ → ℕ → ℕ → ℕ → List Place → Result Walk Refusal → Type 0
Walked image segments left a rest names (Ok (Walk.Ended count rest')) = Last image segments left a rest names count rest'
Walked image segments left a rest names (Ok (Walk.Full next left' rest')) = Block image segments left a rest names 8 left' next rest'
Walked image segments left a rest names (Err r) = (r ≡ Refusal.DeepContexts) × (deeper image segments left a ≡ true)
