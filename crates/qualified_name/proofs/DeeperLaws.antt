-- More than `n` contexts can be read: in terms of the chain, and of the program of context `n`.
use Rattle.std.specs.Prelude.{Option, Some, None}
use Prim.Native.Nat.{ℕ, zero, suc}
use Rattle.std.proofs.Common.{arith, ◌∙◌}
use Rattle.std.proofs.Math.Path.{◌≡◌, refl, sym, ap}
use mathlib.Core.List.{List, [], ◌∷◌}
use Rattle.std.proofs.Math.Bool.{true, false}
use Rattle.std.proofs.Math.Dec.{leb-suc-suc}
use Rattle.std.proofs.lemmas.Bool.{lt-leb}
use Rattle.runtime.specs.Reads.{run}
use Rattle.parent.specs.Context.{Header, header, Context, with_name}
use Rattle.parent.specs.Chain.{header_at, chain}
use Rattle.parent.proofs.ChainLaws.{chain_by, next_by}
use Rattle.qualified_name.specs.Name.{is_there}
use Rattle.qualified_name.specs.Walk.{deeper}

module _ (image segments : List ℕ) where
  -- more than `n` contexts can be read exactly if context `n` can
  pub deeper_is : (n a : ℕ) → deeper image segments n a ≡ is_there (run image segments (header_at n a))
  unfolding header_at chain
  deeper_is zero a = go (run image segments (header a)) refl
    where
      go : (x : Option Header) → run image segments (header a) ≡ x → deeper image segments 0 a ≡ is_there (run image segments (header a))
      go None e = rw (chain_by image segments 0 a None e, e)
      go (Some h) e = rw (chain_by image segments 0 a (Some h) e, e)
  deeper_is (suc n) a = go (run image segments (header a)) refl (λ b. deeper_is n b)
    where
      go : (x : Option Header) → run image segments (header a) ≡ x → ((b : ℕ) → deeper image segments n b ≡ is_there (run image segments (header_at n b)))
          → deeper image segments (suc n) a ≡ is_there (run image segments (header_at (suc n) a))
      go None e ih = rw (chain_by image segments (suc n) a None e, next_by image segments n a None e) (lt-leb (suc (suc n)) 0 (omega arith))
      go (Some h) e ih = rw (chain_by image segments (suc n) a (Some h) e, next_by image segments n a (Some h) e, leb-suc-suc) (ih h.parent)

  -- if there are no more, those are all
  pub not_deeper : (n a : ℕ) → deeper image segments n a ≡ false → chain image segments (suc n) a ≡ chain image segments n a
  unfolding chain
  not_deeper zero a e = go (run image segments (header a)) refl
    where
      go : (x : Option Header) → run image segments (header a) ≡ x → chain image segments 1 a ≡ []
      go None f = chain_by image segments 0 a None f
      go (Some h) f = let z : true ≡ false = rw (chain_by image segments 0 a (Some h) f) at e in let y : ◌≡◌ {A = ℕ} 0 1 = cc in absurd (omega arith)
  not_deeper (suc n) a e = go (run image segments (header a)) refl (λ b. not_deeper n b)
    where
      go : (x : Option Header) → run image segments (header a) ≡ x → ((b : ℕ) → deeper image segments n b ≡ false → chain image segments (suc n) b ≡ chain image segments n b)
          → chain image segments (suc (suc n)) a ≡ chain image segments (suc n) a
      go None f ih = chain_by image segments (suc n) a None f ∙ sym (chain_by image segments n a None f)
      go (Some h) f ih =
          let g : deeper image segments n h.parent ≡ false = rw (chain_by image segments (suc n) a (Some h) f, leb-suc-suc) at e in
          chain_by image segments (suc n) a (Some h) f ∙ ap (λ (l : List Context). with_name image segments h ∷ l) (ih h.parent g) ∙ sym (chain_by image segments n a (Some h) f)
