-- The chain of contexts: docs/SPECIFICATION.md, "Contexts": each context's parent is the next one; a walk gives the first 256.
use Rattle.std.specs.Prelude.{ℕ, zero, suc, ◌+◌, List, [], ◌∷◌, cond, leb, Option, Some, None, option_map}
use Rattle.runtime.specs.Reads.{Reads, bind, run}
use Rattle.parent.specs.Context.{Header, header, Context, with_name, context_read, context_in}
use Rattle.parent.specs.declared.chain.ParentStep.{ParentStep}

-- how many contexts a walk gives
abbrev pub contexts_most : ℕ
contexts_most = 256

-- the header of context `k` from an address on, the innermost being context 0: a program that reads the headers 0 to `k`
unfoldable pub header_at : ℕ → ℕ → Reads Header
header_at zero a = header a
header_at (suc k) a = bind (header a) (λ h. header_at k h.parent)

-- that context
unfoldable pub context_at : List ℕ → List ℕ → ℕ → ℕ → Option Context
context_at image segments k a = option_map (with_name image segments) (run image segments (header_at k a))

-- at most `n` contexts from an address on, the innermost first
unfoldable pub chain : List ℕ → List ℕ → ℕ → ℕ → List Context
chain image segments zero a = []
chain image segments (suc n) a =
    elim (context_read image segments a) [ None ↦ [] | Some c ↦ c ∷ chain image segments n c.header.parent ]

-- a step: a context, and the walk from there on
pub record Step : Type 0 where
  pub context : Context
  pub next : ℕ
  pub given : ℕ

unfoldable pub chain_step : List ℕ → List ℕ → ℕ → ℕ → Option Step
chain_step image segments a given =
    cond (leb contexts_most given) None
    (option_map (λ c. record { context = c; next = c.header.parent; given = given + 1 }) (context_read image segments a))

abbrev pub parent_step_of : List ℕ → Option ParentStep → Option Step
parent_step_of image o = option_map (λ s. record { context = context_in image s.context; next = s.next.next_descriptor_va; given = s.next.given }) o
