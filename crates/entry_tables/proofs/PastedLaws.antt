-- Numbers at a place of the caller's list, as the code puts them one by one, and one piece after another.
use Rattle.std.specs.Prelude.{◌≡◌, ℕ, ◌+◌, ◌≤◌, List, [], ◌∷◌, ◌++◌, length, slice_set, refl}
use Rattle.std.proofs.Common.{arith, sym, ◌∙◌, ap}
use Rattle.util.specs.Buffer.{pasted, Put}
use Rattle.util.proofs.BufferLaws.{put_then, put_length}
use Rattle.entry_tables.proofs.TablesLaws.{set_put, set_more}

module _ (b : List ℕ) (at x y : ℕ) where
  two : at + 2 ≤ length b → Put b at (x ∷ (y ∷ [])) (at + 2) (slice_set (slice_set b at x) (at + 1) y)
  two h = set_more b (x ∷ []) _ at 1 y (set_put b at x (omega arith)) refl (omega arith)

  pub two_put : at + 2 ≤ length b → slice_set (slice_set b at x) (at + 1) y ≡ pasted b at (x ∷ (y ∷ []))
  two_put h = (two h).holds

  module _ (z : ℕ) where
    three : at + 3 ≤ length b → Put b at (x ∷ (y ∷ (z ∷ []))) (at + 3) (slice_set (slice_set (slice_set b at x) (at + 1) y) (at + 2) z)
    three h = set_more b (x ∷ (y ∷ [])) _ at 2 z (two (omega arith)) refl (omega arith)

    pub three_put : at + 3 ≤ length b → slice_set (slice_set (slice_set b at x) (at + 1) y) (at + 2) z ≡ pasted b at (x ∷ (y ∷ (z ∷ [])))
    three_put h = (three h).holds

    pub four_put : (w : ℕ) → at + 4 ≤ length b → slice_set (slice_set (slice_set (slice_set b at x) (at + 1) y) (at + 2) z) (at + 3) w ≡ pasted b at (x ∷ (y ∷ (z ∷ (w ∷ []))))
    four_put w h = (set_more b (x ∷ (y ∷ (z ∷ []))) _ at 3 w (three (omega arith)) refl (omega arith)).holds

-- one piece and then another
pub pasted_then : (b p q b' b'' : List ℕ) (at n : ℕ) → b' ≡ pasted b at p → length p ≡ n → b'' ≡ pasted b' (at + n) q → at + n ≤ length b → b'' ≡ pasted b at (p ++ q)
pasted_then b p q b' b'' at n e en f h =
    (put_then b p q b' b'' at (at + n) (at + n + length q) (record { ends = ap (λ (k : ℕ). at + k) (sym en); holds = e }) (record { ends = refl; holds = f }) (omega arith)).holds

pub pasted_long : (b p b' : List ℕ) (at : ℕ) → b' ≡ pasted b at p → at + length p ≤ length b → length b' ≡ length b
pasted_long b p b' at e h = put_length b p b' at (at + length p) (record { ends = refl; holds = e }) h

-- the same piece by another name
pub pasted_as : (b b' p q : List ℕ) (at : ℕ) → b' ≡ pasted b at p → p ≡ q → b' ≡ pasted b at q
pasted_as b b' p q at e f = e ∙ ap (pasted b at) f
