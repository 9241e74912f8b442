-- What an answer says about what is made from it: the start of a descriptor's blocks, and the block of a kind.
use Rattle.std.specs.Prelude.{ℕ, ◌≡◌, List, [], ◌∷◌, ◌++◌, Option, Some, None}
use Rattle.std.proofs.Common.{◌∙◌, ap}
use Rattle.refusal.specs.Refusal.{Guarded, answered, refused, mapped}
use Rattle.runtime.specs.Reads.{and_then, run}
use Rattle.classtrailers.specs.Blocks.{row_number, kind_numbered}
use Rattle.classtrailers.specs.declared.block.Block.{Block}
use Rattle.classtrailers.specs.declared.block.BlockKind.{BlockKind}
use Rattle.classtrailers.specs.declared.trailing.Trailing.{Trailing}
use Rattle.type_body.specs.Body.{Body, body}
use Rattle.type_body.specs.Items.{trailers}
use Rattle.type_body.specs.declared.trailers.Start.{Start}
use Rattle.full_rows.specs.FullRows.{recorded_numbers}
use Rattle.refusal.specs.Guarded.{guarded}
use Rattle.refusal.proofs.GuardedLaws.{answered_is, mapped_guarded}
use Rattle.steps.specs.Blocks.{kind_from}
use Rattle.c_numbers.specs.Flags.{flag_number}
use Rattle.c_blocks.specs.Blocks.{start_at, start_numbers, block_numbers, kind_block_numbers, block_numbered}

-- ---- what is made from an answer

module _ (segments : List ℕ) {A B : Type 0} (f : A → B) (x : A) where
  pub answered_then : (y : A) → answered y ≡ guarded segments (answered x) → answered (f y) ≡ guarded segments (answered (f x))
  answered_then y e = ap (mapped f) e ∙ mapped_guarded segments (answered x) f

  pub refused_then : (n : ℕ) → refused n ≡ guarded segments (answered x) → refused n ≡ guarded segments (answered (f x))
  refused_then n e = ap (mapped f) e ∙ mapped_guarded segments (answered x) f

-- ---- numbers

pub start_known : (read : Option Start) (t : Trailing) (s b : ℕ) → read ≡ Some (record { trailing = t; start = s }) → b ≡ flag_number t.is_class
    → 1 ∷ (b ∷ (t.extra ∷ (s ∷ []))) ≡ start_numbers read
start_known read t s b e eb = rw (eb, e)

module _ (b : Block) (k : ℕ) (l : List ℕ) (ek : k ≡ row_number b.kind) (el : l ≡ recorded_numbers b) where
  pub step_known : (rest : List ℕ) → 1 ∷ (k ∷ (l ++ rest)) ≡ 1 ∷ (block_numbers b ++ rest)
  step_known rest = rw (ek, el)

  pub block_known : 1 ∷ (k ∷ l) ≡ kind_block_numbers (Some b)
  block_known = rw (ek, el)

-- ---- the block of a kind

module _ (image segments : List ℕ) (address flags number : ℕ) where
  -- made from a body
  abbrev pub block_with : Option Body → Option Block
  block_with b = block_numbered image segments (trailers address flags b) number

  module _ (b : Option Body) (e : answered b ≡ guarded segments (answered (run image segments (body address flags)))) where
    pub no_kind_no_block : None ≡ kind_numbered number → answered None ≡ guarded segments (answered (block_numbered image segments (start_at image segments address flags) number))
    no_kind_no_block f =
        ap (λ (k : Option BlockKind). answered (and_then k (λ k. kind_from image segments k (trailers address flags b)))) f
        ∙ answered_then segments block_with _ b e

    pub kind_block : (k : BlockKind) (x : Guarded (Option Block)) → Some k ≡ kind_numbered number → x ≡ guarded segments (answered (kind_from image segments k (trailers address flags b)))
        → x ≡ guarded segments (answered (block_numbered image segments (start_at image segments address flags) number))
    kind_block k x f g =
        g
        ∙ ap (λ (k : Option BlockKind). guarded segments (answered (and_then k (λ k. kind_from image segments k (trailers address flags b))))) f
        ∙ ap (λ (b : Option Body). guarded segments (answered (block_with b))) (answered_is segments _ b e)

  pub no_body_no_block : (n : ℕ) → refused n ≡ guarded segments (answered (run image segments (body address flags)))
      → refused n ≡ guarded segments (answered (block_numbered image segments (start_at image segments address flags) number))
  no_body_no_block n e = refused_then segments block_with _ n e
