-- What a written answer says about the buffer and its length, and what the hops say about the joined name.
use Prim.Native.Nat.{ℕ, zero, suc, ◌+◌, ◌-◌, ◌^◌, ◌≤◌, ◌<◌, min}
use Rattle.std.proofs.Common.{add_comm, zero-add, arith, sym, ◌∙◌, length-append}
use Rattle.std.proofs.Math.Decide.{dec_lt}
use Rattle.std.proofs.Math.Path.{◌≡◌, refl, ap}
use mathlib.Core.List.{List, ◌∷◌, ◌++◌}
use Rattle.std.specs.Prelude.{Bool, drop, ltb, Option, Some, None}
use Rattle.std.proofs.Math.Bool.{true, false, cond}
use Rattle.std.proofs.Math.ListN.{length}
use borrow.Author.Tests.{lt-ltb, le-ltb}
use Rattle.refusal.specs.Refusal.{Guarded, answered, refused, mapped, answer_of}
use Rattle.util.specs.Buffer.{Put, overwritten}
use Rattle.util.proofs.BufferLaws.{put_then}
use Rattle.segment.specs.Mapping.{with_mapping, TrueMapping}
use Rattle.segment.specs.declared.segment.Mapping.{Mapping}
use Rattle.runtime.proofs.CallsLaws.{run_mapped}
use Rattle.parent.specs.Context.{Context, context_read}
use Rattle.parent.proofs.ContextLaws.{context_mapped}
use Rattle.parent.specs.Chain.{contexts_most, header_at, chain}
use Rattle.qualified_name.proofs.DeeperLaws.{deeper_is, not_deeper}
use Rattle.qualified_name.specs.Name.{hops, too_deep, qualified_name, name_answer}
use Rattle.qualified_name.specs.Walk.{deeper, before, hops_answer, filled}
use Rattle.typedescriptor.specs.Row.{TypeRow}

-- a refusal leaves the buffer unchanged
pub kept : (r : ℕ) (t b : List ℕ) → b ≡ filled (refused r) t b
unfolding filled
kept r t b = refl

pub filled_as : (x y : Guarded ℕ) (t b b' : List ℕ) → b' ≡ filled x t b → x ≡ y → b' ≡ filled y t b
filled_as x y t b b' e f = e ∙ ap (λ (z : Guarded ℕ). filled z t b) f

pub refused_as : (x : Guarded ℕ) (r : ℕ) (t u b b' : List ℕ) → b' ≡ filled x t b → x ≡ refused r → b' ≡ filled (refused r) u b
unfolding filled
refused_as x r t u b b' e f = filled_as x (refused r) t b b' e f

-- a text at the buffer's start
pub at_start_lem : (b t b' : List ℕ) (n : ℕ) → n ≡ length t → b' ≡ filled (answered n) t b → Put b 0 t n b'
unfolding filled
at_start_lem b t b' n en e = record { ends = omega arith; holds = e ∙ ap (λ (k : ℕ). t ++ drop k b) (sym (zero-add (length t))) }

pub from_start : (b t b' : List ℕ) (n : ℕ) → Put b 0 t n b' → b' ≡ filled (answered n) t b
unfolding filled
from_start b t b' n w = w.holds ∙ ap (λ (k : ℕ). t ++ drop k b) (zero-add (length t))

-- ---- the hops from an address on

-- the answer of the contexts further out, with more bytes after them
abbrev pub onward : ℕ → Guarded ℕ → Guarded ℕ
onward k = mapped (λ n. n + k)

-- the room is measured with what comes after the hops, or without it
pub measured : (d : Bool) (n k rest more size : ℕ) → more ≡ min (rest + k) (2 ^ 64 - 1) → size < 2 ^ 64 - 1
    → cond d (refused 4) (cond (ltb size (rest + (n + k))) (refused 3) (answered (n + k)))
    ≡ onward k (cond d (refused 4) (cond (ltb size (more + n)) (refused 3) (answered n)))
measured true n k rest more size em hs = refl
measured false n k rest more size em hs =
    elim (dec_lt size (rest + (n + k))) [
      | yes h ↦ rw (lt-ltb size (rest + (n + k)) h, lt-ltb size (more + n) (omega arith))
      | no h ↦ rw (le-ltb size (rest + (n + k)) (omega arith), le-ltb size (more + n) (omega arith))
    ]

-- what a length that is answered says
length_told : (d : Bool) (rest size m n : ℕ) → answered n ≡ cond d (refused 4) (cond (ltb size (rest + m)) (refused 3) (answered m))
    → (d ≡ false) × ((n ≡ m) × (rest + n ≤ size))
length_told true rest size m n e = let z : ◌≡◌ {A = ℕ} 0 1 = cc in absurd (omega arith)
length_told false rest size m n e =
    elim (dec_lt size (rest + m)) [
      | yes h ↦
          let f : answered n ≡ refused 3 = rw (lt-ltb size (rest + m) h) at e in
          let z : ◌≡◌ {A = ℕ} 0 1 = cc in
          absurd (omega arith)
      | no h ↦
          let f : answered n ≡ answered m = rw (le-ltb size (rest + m) (omega arith)) at e in
          let g : n ≡ m = cc in
          (refl, (g, omega arith))
    ]

pub hops_written : (image segments : List ℕ) (left a rest size n : ℕ) → answered n ≡ hops_answer image segments left a rest size
    → (n ≡ length (before image segments left a)) × (rest + n ≤ size)
unfolding hops_answer
hops_written image segments left a rest size n e = (length_told (deeper image segments left a) rest size (length (before image segments left a)) n e).1

-- ---- the joined name

-- the two ways to say it: with the first 256 contexts, and with the contexts that are read to see whether there are more
module _ (image segments : List ℕ) (row : TypeRow) (own : List ℕ) (eo : own ≡ row.name_bytes) where
  abbrev ahead : List ℕ
  ahead = before image segments contexts_most row.parent

  both : (d : Bool) (x : List ℕ) (size : ℕ) → (d ≡ false → hops (chain image segments contexts_most row.parent) ≡ ahead)
      → cond d (refused 4) (cond (ltb size (length (hops (chain image segments contexts_most row.parent) ++ own))) (refused 3) (answered (hops (chain image segments contexts_most row.parent) ++ own)))
      ≡ cond d (refused 4) (cond (ltb size (length own + length ahead)) (refused 3) (answered (ahead ++ own)))
  both true x size h = refl
  both false x size h = rw (h refl, length-append, add_comm (length ahead) (length own))

  name_is : (size : ℕ)
      → name_answer image segments row size
      ≡ cond (deeper image segments contexts_most row.parent) (refused 4) (cond (ltb size (length own + length ahead)) (refused 3) (answered (ahead ++ own)))
  unfolding name_answer qualified_name too_deep
  name_is size =
      rw (← eo, ← deeper_is image segments contexts_most row.parent)
      (both (deeper image segments contexts_most row.parent) own size (λ e. ap hops (sym (not_deeper image segments contexts_most row.parent e))))

  module _ (size : ℕ) where
    name_answered : (n : ℕ) → answered n ≡ hops_answer image segments contexts_most row.parent (length own) size → name_answer image segments row size ≡ answered (ahead ++ own)
    unfolding hops_answer
    name_answered n e =
        let w = length_told (deeper image segments contexts_most row.parent) (length own) size (length ahead) n e in
        name_is size ∙ rw (w.0, le-ltb size (length own + length ahead) (omega (arith, w.1.0, w.1.1)))

    pub name_refused : (x : ℕ) → refused x ≡ hops_answer image segments contexts_most row.parent (length own) size → name_answer image segments row size ≡ refused x
    unfolding hops_answer
    name_refused x e = name_is size ∙ go (deeper image segments contexts_most row.parent) (ltb size (length own + length ahead)) e
      where
        go : (d t : Bool) → refused x ≡ cond d (refused 4) (cond t (refused 3) (answered (length ahead))) → cond d (refused 4) (cond t (refused 3) (answered (ahead ++ own))) ≡ refused x
        go true t f = let g : x ≡ 4 = cc in ap refused (sym g)
        go false true f = let g : x ≡ 3 = cc in ap refused (sym g)
        go false false f = let z : ◌≡◌ {A = ℕ} 0 1 = cc in absurd (omega arith)

    pub name_kept : (x : ℕ) (y : Guarded ℕ) (t b b' : List ℕ) → refused x ≡ hops_answer image segments contexts_most row.parent (length own) size → b' ≡ filled y t b → y ≡ refused x
        → b' ≡ overwritten b (answer_of (name_answer image segments row size))
    unfolding filled
    name_kept x y t b b' e eb f = rw (name_refused x e) (filled_as y (refused x) t b b' eb f)

    pub name_written : (n r : ℕ) → answered n ≡ hops_answer image segments contexts_most row.parent (length own) size → n ≡ length ahead → r ≡ n + length own
        → answered r ≡ mapped length (name_answer image segments row size)
    name_written n r e en er = rw (name_answered n e) (ap answered (er ∙ ap (λ (k : ℕ). k + length own) en ∙ sym (length-append ahead own)))

    pub name_filled : (b b' b'' : List ℕ) (n end : ℕ) → answered n ≡ hops_answer image segments contexts_most row.parent (length own) size → b' ≡ filled (answered n) ahead b
        → n ≡ length ahead → Put b' n own end b'' → n ≤ length b
        → b'' ≡ overwritten b (answer_of (name_answer image segments row size))
    unfolding filled
    name_filled b b' b'' n end e eb en w h =
        rw (name_answered n e) (from_start b (ahead ++ own) b'' end (put_then b ahead own b' b'' 0 n end (at_start_lem b ahead b' n en eb) w (omega arith)))

-- what an answer says about the name
pub name_length : (image segments : List ℕ) (row : TypeRow) (size n : ℕ) → answered n ≡ mapped length (name_answer image segments row size)
    → (name_answer image segments row size ≡ answered (qualified_name image segments row)) × ((n ≡ length (qualified_name image segments row)) × (n ≤ size))
unfolding name_answer
name_length image segments row size n e = go (too_deep image segments row.parent) (qualified_name image segments row) e
  where
    go : (d : Bool) (t : List ℕ) → answered n ≡ mapped length (cond d (refused 4) (cond (ltb size (length t)) (refused 3) (answered t)))
        → (cond d (refused 4) (cond (ltb size (length t)) (refused 3) (answered t)) ≡ answered t) × ((n ≡ length t) × (n ≤ size))
    go true t e = let z : ◌≡◌ {A = ℕ} 0 1 = cc in absurd (omega arith)
    go false t e =
        elim (dec_lt size (length t)) [
          | yes h ↦
              let f : answered n ≡ refused 3 = rw (lt-ltb size (length t) h) at e in
              let z : ◌≡◌ {A = ℕ} 0 1 = cc in
              absurd (omega arith)
          | no h ↦
              let f : answered n ≡ answered (length t) = rw (le-ltb size (length t) (omega arith)) at e in
              let g : n ≡ length t = cc in
              (rw (le-ltb size (length t) (omega arith)), (g, omega arith))
        ]

-- ---- with a true mapping

module _ (image segments : List ℕ) (m : Mapping) (w : TrueMapping segments m) where
  further_mapped : (n a : ℕ) → ((b : ℕ) → chain image (with_mapping m segments) n b ≡ chain image segments n b) → (c : Option Context)
      → c ≡ context_read image (with_mapping m segments) a → c ≡ context_read image segments a
      → chain image (with_mapping m segments) (suc n) a ≡ chain image segments (suc n) a
  unfolding chain
  further_mapped n a f None d e = rw (chain, ← d) (sym (rw (chain, ← e)))
  further_mapped n a f (Some c) d e = rw (chain, ← d) (sym (rw (chain, ← e) (ap (λ (cs : List Context). c ∷ cs) (sym (f c.header.parent)))))

  chain_mapped : (n a : ℕ) → chain image (with_mapping m segments) n a ≡ chain image segments n a
  unfolding chain
  chain_mapped zero a = refl
  chain_mapped (suc n) a = further_mapped n a (chain_mapped n) (context_read image segments a) (sym (context_mapped image segments a m w)) refl

  name_mapped : (row : TypeRow) (size : ℕ) → name_answer image (with_mapping m segments) row size ≡ name_answer image segments row size
  unfolding name_answer too_deep qualified_name
  name_mapped row size = rw (chain_mapped contexts_most row.parent, run_mapped image segments m w (header_at contexts_most row.parent))

  -- so what is answered and written with it is the name
  pub name_near : (row : TypeRow) (size : ℕ) (r : Guarded ℕ) (b b' : List ℕ)
      → r ≡ mapped length (name_answer image (with_mapping m segments) row size) → b' ≡ overwritten b (answer_of (name_answer image (with_mapping m segments) row size))
      → (r ≡ mapped length (name_answer image segments row size)) × (b' ≡ overwritten b (answer_of (name_answer image segments row size)))
  name_near row size r b b' e f = (e ∙ ap (mapped length) (name_mapped row size), f ∙ ap (λ (x : Guarded (List ℕ)). overwritten b (answer_of x)) (name_mapped row size))
