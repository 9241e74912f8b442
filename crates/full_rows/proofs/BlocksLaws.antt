-- What the code writes for a descriptor's blocks, kind after kind, is the definition's numbers (`Putting`).
use Prim.Native.Nat.{ℕ, zero, suc, ◌+◌, ◌-◌, ◌*◌, ◌≤◌, ◌<◌}
use native.Mathlib.Omega.{arith}
use Rattle.std.proofs.Math.Nat.{mul-suc}
use Rattle.std.proofs.Common.{add-zero, add-one, ◌∙◌, ne_eqb}
use Rattle.std.specs.Prelude.{◌≡◌, Bool, true, false, cond, length, set, replicate, eqb, Option, Some, None}
use Rattle.std.proofs.Math.Path.{refl, sym, ap}
use mathlib.Core.List.{List, [], ◌∷◌, ◌++◌, append_assoc, append-nil}
use Rattle.std.proofs.Math.ListN.{length-append}
use Rattle.std.proofs.lemmas.List.{length-replicate, replicate-append-replicate}
use Rattle.util.specs.Buffer.{pasted}
use Rattle.util.proofs.BufferLaws.{put_none}
use Rattle.runtime.specs.Reads.{run}
use Rattle.classtrailers.specs.Blocks.{row_at, row_number, block_at, reached, block_in, kind_there, block}
use Rattle.classtrailers.specs.declared.trailing.Trailing.{Trailing}
use Rattle.classtrailers.specs.declared.block.Ended.{Ended}
use Rattle.classtrailers.proofs.BlocksLaws.{row_absent, row_fails, row_read}
use Rattle.classtrailers.proofs.CallsLaws.{is_there_lem, is_absent, reached_start, stopped, kind_stops}
use Rattle.classtrailers.specs.declared.block.Block.{Block}
use Rattle.classtrailers.specs.declared.block.BlockBody.{BlockBody}
use Rattle.classtrailers.specs.declared.block.BlockKind.{BlockKind}
use Rattle.entry_tables.proofs.TablesLaws.{set_more}
use Rattle.entry_tables.proofs.PastedLaws.{pasted_then, pasted_long, pasted_as}
use Rattle.full_rows.specs.FullRows.{table_recorded, recorded_in, block_four, block_fours}

-- ---- numbers at a place of a list

-- four numbers and four more
pub eight_put : (b b' b'' r : List ℕ) (at x y z w x' y' z' w' : ℕ) → b' ≡ pasted b at (x ∷ (y ∷ (z ∷ (w ∷ [])))) → b'' ≡ pasted b' (at + 4) (x' ∷ (y' ∷ (z' ∷ (w' ∷ []))))
    → at + 8 ≤ length b → x ∷ (y ∷ (z ∷ (w ∷ (x' ∷ (y' ∷ (z' ∷ (w' ∷ []))))))) ≡ r → b'' ≡ pasted b at r
eight_put b b' b'' r at x y z w x' y' z' w' e f h q =
    pasted_as b b'' _ r at (pasted_then b (x ∷ (y ∷ (z ∷ (w ∷ [])))) (x' ∷ (y' ∷ (z' ∷ (w' ∷ [])))) b' b'' at 4 e refl f (omega arith)) q

pub six_put : (b b' b'' : List ℕ) (at x y z w x' y' : ℕ) → b' ≡ pasted b at (x ∷ (y ∷ (z ∷ (w ∷ [])))) → b'' ≡ pasted b' (at + 4) (x' ∷ (y' ∷ [])) → at + 6 ≤ length b
    → b'' ≡ pasted b at (x ∷ (y ∷ (z ∷ (w ∷ (x' ∷ (y' ∷ []))))))
six_put b b' b'' at x y z w x' y' e f h = pasted_then b (x ∷ (y ∷ (z ∷ (w ∷ [])))) (x' ∷ (y' ∷ [])) b' b'' at 4 e refl f (omega arith)

-- zeros
abbrev pub zeros : ℕ → List ℕ
zeros n = replicate n 0

zeros_count : (n : ℕ) → length (zeros n) ≡ n
zeros_count n = length-replicate {A = ℕ} n 0

zeros_append : (n m k : ℕ) → n + m ≡ k → zeros n ++ zeros m ≡ zeros k
zeros_append n m k e = replicate-append-replicate {A = ℕ} n m 0 ∙ ap zeros e

pub zeros_start : (b : List ℕ) (at : ℕ) → b ≡ pasted b at (zeros 0)
zeros_start b at = (put_none b at).holds

-- one more
pub zeros_more : (b b' : List ℕ) (at n : ℕ) → b' ≡ pasted b at (zeros n) → at + n < length b → set b' (at + n) 0 ≡ pasted b at (zeros (n + 1))
zeros_more b b' at n e h =
    (set_more b (zeros n) b' at n 0 (record { ends = ap (λ (k : ℕ). at + k) (sym (zeros_count n)); holds = e }) (zeros_count n) h).holds
    ∙ ap (pasted b at) (zeros_append n 1 (n + 1) refl)

pub zeros_all : (b b' : List ℕ) (at n m : ℕ) → b' ≡ pasted b at (zeros n) → n ≡ m → b' ≡ pasted b at (zeros m)
zeros_all b b' at n m e q = e ∙ ap (λ (k : ℕ). pasted b at (zeros k)) q

-- ---- a block's numbers

pub block_long : (x : Option Block) → length (block_four x) ≡ 4
block_long None = refl
block_long (Some b) = ap suc (go b.body)
  where
    table : (c : Bool) (o n a : ℕ) → length (cond c (o ∷ (n ∷ (a ∷ []))) (n ∷ (a ∷ (0 ∷ [])))) ≡ 3
    table true o n a = refl
    table false o n a = refl

    go : (y : BlockBody) → length (recorded_in b.kind y) ≡ 3
    go (BlockBody.At a) = refl
    go (BlockBody.Table o n a) = table (eqb (row_number b.kind) 4) o n a
    go (BlockBody.Set s n) = refl

-- the case of what is recorded
pub recorded_as : (k : BlockKind) (b c : BlockBody) (p : List ℕ) → b ≡ c → p ≡ recorded_in k c → p ≡ recorded_in k b
recorded_as k b c p e f = f ∙ ap (recorded_in k) (sym e)

-- those of a table
module _ (k : BlockKind) (r o n a : ℕ) (e : r ≡ row_number k) where
  pub vtable_numbers : r ≡ 4 → o ∷ (n ∷ (a ∷ [])) ≡ table_recorded k o n a
  vtable_numbers f = let q : row_number k ≡ 4 = sym e ∙ f in rw q

  pub other_numbers : (r ≡ 4 → ⊥) → n ∷ (a ∷ (0 ∷ [])) ≡ table_recorded k o n a
  other_numbers f = simp (ne_eqb (row_number k) 4 (λ q. f (e ∙ q)))

-- the same by the kind
pub table_of_vtable : (k : BlockKind) (o n a : ℕ) → k ≡ BlockKind.VTable → o ∷ (n ∷ (a ∷ [])) ≡ table_recorded k o n a
table_of_vtable k o n a e = rw e

pub table_of_other : (k : BlockKind) (o n a : ℕ) → (k ≡ BlockKind.VTable → ⊥) → n ∷ (a ∷ (0 ∷ [])) ≡ table_recorded k o n a
table_of_other BlockKind.VTable o n a e = absurd (e refl)
table_of_other BlockKind.Generic o n a e = refl
table_of_other BlockKind.ResilientSuperclass o n a e = refl
table_of_other BlockKind.ForeignMetadataInit o n a e = refl
table_of_other BlockKind.SingletonMetadataInit o n a e = refl
table_of_other BlockKind.OverrideTable o n a e = refl
table_of_other BlockKind.ObjcResilientClassStub o n a e = refl
table_of_other BlockKind.Prespecializations o n a e = refl
table_of_other BlockKind.InvertibleProtocolSet o n a e = refl
table_of_other BlockKind.SingletonMetadataPointer o n a e = refl
table_of_other BlockKind.DefaultOverrideTable o n a e = refl

-- if nothing follows, all are 0
pub none_follow : (image segments : List ℕ) → zeros 44 ≡ block_fours image segments None
unfolding block_fours
none_follow image segments = refl

-- ---- kind after kind

module _ (image segments : List ℕ) (t : Trailing) (start : ℕ) where
  -- the numbers of `n` rows of the table from row `i` on, and those of the first `n`
  unfoldable pub from : ℕ → ℕ → List ℕ
  from zero i = []
  from (suc n) i = block_four (run image segments (block_in t start i)) ++ from n (i + 1)

  unfoldable pub upto : ℕ → List ℕ
  upto zero = []
  upto (suc n) = upto n ++ block_four (run image segments (block_in t start n))

  all_from : block_fours image segments (Some (record { trailing = t; start = start })) ≡ from 11 0
  unfolding block_fours block from
  all_from = refl

  upto_from : (m n : ℕ) → upto n ++ from m n ≡ upto (n + m)
  unfolding from upto
  upto_from zero n = append-nil (upto n) ∙ ap upto (sym (add-zero n))
  upto_from (suc m) n =
      let sum : n + 1 + m ≡ n + suc m = omega arith in
      let last : upto (n + 1) ≡ upto n ++ block_four (run image segments (block_in t start n)) = ap upto (add-one n) in
      sym (append_assoc (upto n) (block_four (run image segments (block_in t start n))) (from m (n + 1)))
      ∙ ap (λ (l : List ℕ). l ++ from m (n + 1)) (sym last) ∙ upto_from m (n + 1) ∙ ap upto sum

  upto_long : (n : ℕ) → length (upto n) ≡ 4 * n
  unfolding upto
  upto_long zero = refl
  upto_long (suc n) = length-append (upto n) _ ∙ omega (arith, upto_long n, block_long (run image segments (block_in t start n)), mul-suc 4 n)

  -- the whole, with the first `n` rows written
  split : (n : ℕ) → n ≤ 11 → upto n ++ from (11 - n) n ≡ block_fours image segments (Some (record { trailing = t; start = start }))
  unfolding upto
  split n h =
      let sum : n + (11 - n) ≡ 0 + 11 = omega arith in
      upto_from (11 - n) n ∙ ap upto sum ∙ sym (upto_from 11 0) ∙ sym all_from

  -- past a walk that stopped all are 0
  from_stopped : (m i : ℕ) → None ≡ run image segments (reached t start i) → from m i ≡ zeros (4 * m)
  unfolding from
  from_stopped zero i e = refl
  from_stopped (suc m) i e =
      let f : None ≡ run image segments (reached t start (i + 1)) = stopped image segments t start (i + 1) i e (omega arith) in
      ap (λ (x : Option Block). block_four x ++ from m (i + 1)) (sym (kind_stops image segments t start i i e (omega arith)))
      ∙ ap (λ (l : List ℕ). block_four None ++ l) (from_stopped m (i + 1) f) ∙ zeros_append 4 (4 * m) (4 * suc m) (omega (arith, mul-suc 4 m))

  rest_count : (i n : ℕ) → i < 11 → n ≡ 40 - 4 * i → n ≡ 4 * (10 - i)
  rest_count i n h e = omega arith

  -- a row, and those after it
  one_more : (i : ℕ) (x : Option Block) (q : List ℕ) → i < 11 → x ≡ run image segments (block_in t start i) → q ≡ from (10 - i) (i + 1) → block_four x ++ q ≡ from (11 - i) i
  unfolding from
  one_more i x q h e f =
      let z : suc (10 - i) ≡ 11 - i = omega arith in
      ap (λ (l : List ℕ). block_four x ++ l) f ∙ ap (λ (o : Option Block). block_four o ++ from (10 - i) (i + 1)) e ∙ ap (λ (k : ℕ). from k i) z

  module _ (b₀ : List ℕ) (at : ℕ) where
    -- the rows before `i` are written, and row `i` lies at `a`
    pub record Putting (i a : ℕ) (b : List ℕ) : Type 0 where
      pub few : i ≤ 11
      pub long : length b ≡ length b₀
      pub here : Some a ≡ run image segments (reached t start i)
      pub holds : b ≡ pasted b₀ at (upto i)

    pub start_putting : Putting 0 start b₀
    unfolding upto
    start_putting = record { few = omega arith; long = refl; here = reached_start image segments t start; holds = (put_none b₀ at).holds }

    abbrev Whole : List ℕ → Type 0
    Whole b = b ≡ pasted b₀ at (block_fours image segments (Some (record { trailing = t; start = start })))

    module _ (fits : at + 44 ≤ length b₀) (i a : ℕ) (b : List ℕ) (g : Putting i a b) where
      pub all_put : 11 ≤ i → Whole b
      unfolding from
      all_put h =
          let e : 0 ≡ 11 - i = omega arith in
          let s : upto i ≡ block_fours image segments (Some (record { trailing = t; start = start })) =
          sym (append-nil (upto i)) ∙ ap (λ (k : ℕ). upto i ++ from k i) e ∙ split i g.few in
          g.holds ∙ ap (pasted b₀ at) s

      -- the rest of the rows
      rest_put : (b' q : List ℕ) → q ≡ from (11 - i) i → b' ≡ pasted b (at + 4 * i) q → Whole b'
      rest_put b' q e eb =
          pasted_then b₀ (upto i) q b b' at (4 * i) g.holds (upto_long i) eb (omega (arith, g.few))
          ∙ ap (pasted b₀ at) (ap (λ (r : List ℕ). upto i ++ r) e ∙ split i g.few)

      module _ (h : i < 11) where
        next_put : (c : ℕ) (x : Option Block) (b' : List ℕ) → x ≡ run image segments (block_in t start i) → Some c ≡ run image segments (reached t start (i + 1))
            → b' ≡ pasted b (at + 4 * i) (block_four x) → Putting (i + 1) c b'
        unfolding upto
        next_put c x b' e f eb =
            record {
              few = omega arith;
              long = pasted_long b (block_four x) b' (at + 4 * i) eb (omega (arith, block_long x, g.long)) ∙ g.long;
              here = f;
              holds =
                  pasted_then b₀ (upto i) (block_four x) b b' at (4 * i) g.holds (upto_long i) eb (omega (arith, g.few))
                  ∙ ap (pasted b₀ at) (ap (λ (o : Option Block). upto i ++ block_four o) e ∙ ap upto (sym (add-one i)));
            }

        pub absent_put : None ≡ kind_there t i → (b' : List ℕ) → b' ≡ pasted b (at + 4 * i) (block_four None) → Putting (i + 1) a b'
        absent_put y b' eb =
            let w = row_absent image segments t start i a h g.here (is_absent t i y) in
            next_put a None b' w.1 w.0 eb

        -- a row with a block, of kind `j`
        module _ (j : BlockKind) (y : Some j ≡ kind_there t i) where
          there : (row_at i).there t ≡ true
          there = (is_there_lem t i j y).0

          here_says : (x : Option Ended) → x ≡ run image segments (block_at (row_at (row_number j)) a) → x ≡ run image segments (block_at (row_at i) a)
          here_says x f = rw (is_there_lem t i j y).1 f

          pub there_put : (f : Ended) (e : ℕ) (b' : List ℕ) → Some f ≡ run image segments (block_at (row_at (row_number j)) a) → f.end ≡ Some e
              → b' ≡ pasted b (at + 4 * i) (block_four (Some f.block)) → Putting (i + 1) e b'
          there_put f e b' s q eb =
              let w = row_read image segments t start i a h g.here there _ (here_says _ s) in
              next_put e (Some f.block) b' w.0 (sym q ∙ w.2) eb

          pub last_put : (f : Ended) (b' b'' : List ℕ) (n m : ℕ) → Some f ≡ run image segments (block_at (row_at (row_number j)) a) → f.end ≡ None
              → b' ≡ pasted b (at + 4 * i) (block_four (Some f.block)) → n ≡ 40 - 4 * i → m ≡ at + 4 * i + 4 → b'' ≡ pasted b' m (zeros n) → Whole b''
          unfolding from
          last_put f b' b'' n m s o eb en em eb'' =
              let w = row_read image segments t start i a h g.here there _ (here_says _ s) in
              let rest : zeros n ≡ from (10 - i) (i + 1) = ap zeros (rest_count i n h en) ∙ sym (from_stopped (10 - i) (i + 1) (sym o ∙ w.2)) in
              let q : block_four (Some f.block) ++ zeros n ≡ from (11 - i) i = one_more i (Some f.block) (zeros n) h w.0 rest in
              rest_put b'' _ q
              (pasted_then b (block_four (Some f.block)) (zeros n) b' b'' (at + 4 * i) 4 eb (block_long (Some f.block)) (eb'' ∙ ap (λ (j : ℕ). pasted b' j (zeros n)) em) (omega (arith, g.long)))

          pub fails_put : (b' : List ℕ) (n : ℕ) → None ≡ run image segments (block_at (row_at (row_number j)) a) → n ≡ 44 - 4 * i → b' ≡ pasted b (at + 4 * i) (zeros n) → Whole b'
          fails_put b' n s en eb =
              let w = row_fails image segments t start i a h g.here there (here_says _ s) in
              let count : 4 + (n - 4) ≡ n = omega arith in
              let rest : zeros (n - 4) ≡ from (10 - i) (i + 1) = ap zeros (rest_count i (n - 4) h (omega arith)) ∙ sym (from_stopped (10 - i) (i + 1) w.0) in
              let q : block_four None ++ zeros (n - 4) ≡ from (11 - i) i = one_more i None (zeros (n - 4)) h w.1 rest in
              rest_put b' _ (sym (zeros_append 4 (n - 4) n count) ∙ q) eb
