-- What the premise on texts asks for one name: nothing if the name is looked up nowhere (`nowhere`); if it is looked up at an address,
-- that the cut does not fall into the text there (`there`, `asked`). The worked images use these laws.
use Rattle.std.specs.Prelude.{ℕ, ◌+◌, ◌≤◌, ◌<◌, ◌≡◌, refl, ◌⊎◌, List, drop, Some, None}
use Rattle.std.proofs.Common.{arith, ap}
use Rattle.runtime.specs.Reads.{text_offset, run, extent}
use Rattle.items.specs.Keys.{Sections}
use Rattle.items.specs.Texts.{NameKey, name_of, ClearOf}

-- the cut falls before `o`, or at or after `e`
abbrev pub Outside : ℕ → ℕ → ℕ → Type 0
Outside o e c = (c < o) ⊎ (e ≤ c)

module _ (image segments : List ℕ) (s : Sections) (c : ℕ) (n : NameKey) where
  pub nowhere : run image segments (name_of s n) ≡ None → ClearOf image segments s c n
  nowhere e a f = let z : ◌≡◌ {A = ℕ} 0 1 = cc in absurd (omega arith)

  module _ (a o : ℕ) (named : run image segments (name_of s n) ≡ Some a) (lies : text_offset segments a ≡ Some o) where
    pub there : Outside o (o + extent (drop o image)) c → ClearOf image segments s c n
    there h b e p f _ =
        let q : a ≡ b = cc in
        let r : o ≡ p = cc (ap (text_offset segments) q) in
        rw r at h

    pub asked : ClearOf image segments s c n → Outside o (o + extent (drop o image)) c
    asked h = h a named o lies refl
