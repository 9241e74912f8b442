-- The chain as programs of reads: its context `k` is what `header_at k` reads, and stepping gives the chain.
use Prim.Native.Nat.{ℕ, zero, suc, ◌+◌, ◌-◌, ◌≤◌, ◌<◌, min}
use Rattle.std.proofs.Math.Decide.{dec_le}
use native.Mathlib.Omega.{arith}
use Rattle.std.specs.Prelude.{◌≡◌, Option, Some, None, option_map, slice_get}
use Rattle.std.proofs.Math.Path.{refl, ap}
use Rattle.std.proofs.Common.{sym, ◌∙◌}
use mathlib.Core.List.{List, [], ◌∷◌}
use Rattle.runtime.specs.Reads.{and_then, run}
use Rattle.runtime.proofs.ReadsLaws.{run_bind}
use Rattle.parent.specs.Context.{Header, header, Context, with_name, context_read}
use Rattle.parent.specs.Chain.{contexts_most, header_at, context_at, chain, Step, chain_step}
use Rattle.parent.proofs.ContextLaws.{chain_full, chain_ends, chain_goes_on}

module _ (image segments : List ℕ) where
  -- the chain in terms of what the first header reads
  abbrev pub chained : ℕ → Option Header → List Context
  chained n None = []
  chained n (Some h) = with_name image segments h ∷ chain image segments n h.parent

  pub chain_by : (n a : ℕ) (x : Option Header) → run image segments (header a) ≡ x → chain image segments (suc n) a ≡ chained n x
  unfolding chain context_read with_name
  chain_by n a None e = rw (chain, context_read, e)
  chain_by n a (Some h) e = rw (chain, context_read, e)

  pub next_by : (k a : ℕ) (x : Option Header) → run image segments (header a) ≡ x → run image segments (header_at (suc k) a) ≡ and_then x (λ h. run image segments (header_at k h.parent))
  unfolding header_at
  next_by k a x e = rw (run_bind image segments (λ h. header_at k h.parent) (header a), e)

  -- context `k` of the chain is what its program reads
  pub chain_at : (n k a : ℕ) → k < n → slice_get (chain image segments n a) k ≡ context_at image segments k a
  unfolding context_at header_at
  chain_at zero k a h = absurd (omega arith)
  chain_at (suc n) zero a h = go (run image segments (header a)) refl
    where
      go : (x : Option Header) → run image segments (header a) ≡ x → slice_get (chain image segments (suc n) a) 0 ≡ option_map (with_name image segments) (run image segments (header a))
      go None e = rw (chain_by n a None e, e)
      go (Some h) e = rw (chain_by n a (Some h) e, e)
  chain_at (suc n) (suc k) a h = go (run image segments (header a)) refl (λ b. chain_at n k b (omega arith))
    where
      go : (x : Option Header) → run image segments (header a) ≡ x → ((b : ℕ) → slice_get (chain image segments n b) k ≡ context_at image segments k b)
          → slice_get (chain image segments (suc n) a) (suc k) ≡ context_at image segments (suc k) a
      go None e ih = rw (chain_by n a None e, next_by k a None e)
      go (Some g) e ih = rw (chain_by n a (Some g) e, next_by k a (Some g) e) (ih g.parent)

  -- ---- stepping

  -- the contexts that at most `n` steps from an address on give, `g` having been given before
  unfoldable pub stepped_chain : ℕ → ℕ → ℕ → List Context
  stepped_chain zero a g = []
  stepped_chain (suc n) a g = elim (chain_step image segments a g) [ None ↦ [] | Some s ↦ s.context ∷ stepped_chain n s.next s.given ]

  step_by : (n a g : ℕ) (x : Option Step) → chain_step image segments a g ≡ x
      → stepped_chain (suc n) a g ≡ (elim x as (λ _. List Context) [ None ↦ [] | Some s ↦ s.context ∷ stepped_chain n s.next s.given ])
  unfolding stepped_chain
  step_by n a g x e = rw (stepped_chain, e)

  -- as many contexts of the chain as steps, and at most 256
  pub stepped_chain_lem : (n a g : ℕ) → stepped_chain n a g ≡ chain image segments (min n (contexts_most - g)) a
  unfolding stepped_chain chain
  stepped_chain_lem zero a g = let z : 0 ≡ min 0 (contexts_most - g) = omega arith in ap (λ (k : ℕ). chain image segments k a) z
  stepped_chain_lem (suc n) a g = by (dec_le contexts_most g) (λ b f. stepped_chain_lem n b f)
    where
      by : Dec (contexts_most ≤ g) → ((b f : ℕ) → stepped_chain n b f ≡ chain image segments (min n (contexts_most - f)) b) → stepped_chain (suc n) a g ≡ chain image segments (min (suc n) (contexts_most - g)) a
      by (yes h) ih = step_by n a g None (sym (chain_full image segments a g h)) ∙ (let z : 0 ≡ min (suc n) (contexts_most - g) = omega arith in ap (λ (k : ℕ). chain image segments k a) z)
      by (no h) ih =
          let few : min (suc n) (contexts_most - g) ≡ suc (min n (contexts_most - (g + 1))) = omega arith in
          rw few (go (context_read image segments a) refl)
        where
          go : (x : Option Context) → context_read image segments a ≡ x → stepped_chain (suc n) a g ≡ chain image segments (suc (min n (contexts_most - (g + 1)))) a
          go None e = step_by n a g None (sym (chain_ends image segments a g (sym e) (omega arith))) ∙ rw (chain, e)
          go (Some c) e =
              step_by n a g _ (sym (chain_goes_on image segments a g c (sym e) (omega arith)))
              ∙ ap (λ (l : List Context). c ∷ l) (ih c.header.parent (g + 1))
              ∙ rw (chain, e)

  -- a walk from its start gives the first 256 contexts, and then nothing more
  pub stepped_chain_all : (n a : ℕ) → contexts_most ≤ n → stepped_chain n a 0 ≡ chain image segments contexts_most a
  stepped_chain_all n a h = stepped_chain_lem n a 0 ∙ ap (λ (k : ℕ). chain image segments k a) (omega arith)
