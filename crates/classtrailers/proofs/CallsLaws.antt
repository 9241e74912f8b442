-- What the tests on a header and on an end say about a row's programs, and what those say about the walk and a kind's block.
use Prim.Native.Nat.{ℕ, zero, suc, ◌+◌, ◌-◌, ◌*◌, ◌/◌, ◌%◌, ◌^◌, ◌≤◌, ◌<◌}
use Rattle.std.proofs.Math.Decide.{dec_le}
use native.Mathlib.Omega.{arith}
use Rattle.std.proofs.Common.{ne_eqb, add-one, pow-suc, mul-le-mul_right, sub-eq-zero_of_le, ◌∙◌, le-leb}
use Rattle.std.proofs.Math.Path.{◌≡◌, refl, sym, ap}
use Rattle.std.specs.Prelude.{List, [], ◌∷◌, map, Bool, length, eqb, Option, Some, None, SomeIff, option_map, slice_get}
use Rattle.std.proofs.Math.Bool.{true, false, cond}
use Rattle.std.proofs.Math.ListN.{get_or-eq_default}
use Rattle.std.proofs.lemmas.Option.{slice_get_past}
use Rattle.std.specs.Bool.{then_some}
use Rattle.std.specs.Int.Count.{ones, ones_step}
use Rattle.std.proofs.lemmas.Bool.{lt-leb}
use Rattle.context.specs.TypeContext.{initialization_of}
use Rattle.context.specs.declared.types.MetadataInitializationKind.{MetadataInitializationKind}
use Rattle.context.specs.declared.types.MetadataInitializationKind.TheVariants.{Singleton, Foreign}
use Rattle.runtime.specs.Reads.{done, run, and_then}
use Rattle.runtime.proofs.ReadsLaws.{run_bind}
use Rattle.runtime.specs.Bytes.{bytes_read}
use Rattle.runtime.proofs.CallsLaws.{run_bytes, run_no_bytes}
use Rattle.classtrailers.specs.Blocks.{Trailing, set_block, BlockRow, plain, listed, block_table, set_bits, row_at, below, Ended, ended, block_at, record_at, somewhere, end_at, passed, reached, block_in, row_number, kind_numbered, kind_there, after, BlockIter, BlockStep, step_at, step_in, next_block}
use Rattle.classtrailers.specs.declared.block.Block.{Block}
use Rattle.classtrailers.specs.declared.block.BlockBody.{BlockBody}
use Rattle.classtrailers.specs.declared.block.BlockKind.{BlockKind}

-- ---- ends

module _ (n : ℕ) where
  pub ends_above : 2 ^ 64 ≤ n → None ≡ below n
  unfolding below
  ends_above h = simp (le-leb (2 ^ 64) n h)

  pub ends_below : n < 2 ^ 64 → Some n ≡ below n
  unfolding below
  ends_below h = simp (lt-leb (2 ^ 64) n h)

  pub below_some : (e : ℕ) → Some e ≡ below n → (e ≡ n) × (n < 2 ^ 64)
  unfolding below
  below_some e f = go (dec_le (2 ^ 64) n)
    where
      go : Dec (2 ^ 64 ≤ n) → (e ≡ n) × (n < 2 ^ 64)
      go (yes h) =
          let g : ◌≡◌ {A = Option ℕ} (Some e) None = simp (le-leb (2 ^ 64) n h) at f in
          let z : ◌≡◌ {A = ℕ} 0 1 = cc in
          absurd (omega arith)
      go (no h) =
          let g : Some e ≡ Some n = simp (lt-leb (2 ^ 64) n (omega arith)) at f in
          (cc, omega arith)

  pub below_none : None ≡ below n → 2 ^ 64 ≤ n
  unfolding below
  below_none f = go (dec_le (2 ^ 64) n)
    where
      go : Dec (2 ^ 64 ≤ n) → 2 ^ 64 ≤ n
      go (yes h) = h
      go (no h) =
          let g : ◌≡◌ {A = Option ℕ} None (Some n) = simp (lt-leb (2 ^ 64) n (omega arith)) at f in
          let z : ◌≡◌ {A = ℕ} 0 1 = cc in
          absurd (omega arith)

-- the end that a sum without overflow gives
pub ends_within : (x : Option ℕ) (n : ℕ) → SomeIff x (n < 2 ^ 64) n → x ≡ below n
ends_within None n h = ends_above n (elim (dec_le (2 ^ 64) n) [ yes l ↦ l | no l ↦ absurd (h (omega arith)) ])
ends_within (Some e) n h = rw h.1 (ends_below n h.0)

-- entries of at most 12 bytes, and what comes before them
pub entries_fit : (n k : ℕ) → n ≤ 12 → k < 2 ^ 32 → 4 + n * k < 2 ^ 64
entries_fit n k h l = omega (arith, mul-le-mul_right k h)

-- ---- a row by its kind

module _ (k l : BlockKind) (e : k ≡ l) where
  pub kind_has : (t : Trailing) (b : Bool) → b ≡ (row_at (row_number l)).there t → b ≡ (row_at (row_number k)).there t
  kind_has t b h = rw e h

  pub kind_says : (image segments : List ℕ) (a : ℕ) (x : Option Ended) → x ≡ run image segments (block_at (row_at (row_number l)) a) → x ≡ run image segments (block_at (row_at (row_number k)) a)
  kind_says image segments a x h = rw e h

  pub kind_listed : (image segments : List ℕ) (n a : ℕ) (x : Option Ended) → x ≡ run image segments (block_at (listed k (λ _. false) n) a) → x ≡ run image segments (block_at (listed l (λ _. false) n) a)
  kind_listed image segments n a x h = rw (← e) h

-- a number that is not among the first `k`
abbrev pub Past : ℕ → ℕ → Type 0
Past zero n = Unit {0}
Past (suc k) n = Past k n × (n ≡ k → ⊥)

pub past : (k n : ℕ) → Past k n → k ≤ n
past zero n h = omega arith
past (suc k) n h =
    let l : k ≤ n = past k n h.0 in
    elim (dec_le n k) [ yes g ↦ absurd (h.1 (omega arith)) | no g ↦ omega arith ]

no_row : (n : ℕ) (t : Trailing) → 11 ≤ n → false ≡ (row_at n).there t
unfolding row_at
no_row n t h = rw (get_or-eq_default block_table (plain BlockKind.Generic (λ _. false) 0) h)

-- ---- how a metadata is initialized

module _ (n : ℕ) (k : MetadataInitializationKind) (e : k ≡ initialization_of n) where
  -- by the tests of the number
  abbrev tested : (a b c : Bool) → MetadataInitializationKind
  tested a b c = cond a MetadataInitializationKind.None (cond b Singleton (cond c Foreign MetadataInitializationKind.Other))

  pub is_foreign : k ≡ Foreign → true ≡ eqb n 2
  unfolding initialization_of
  is_foreign f = go (eqb n 0) (eqb n 1) (eqb n 2) e
    where
      go : (a b c : Bool) → k ≡ tested a b c → true ≡ c
      go false false true q = refl
      go true b c q = let z : ◌≡◌ {A = ℕ} 0 1 = cc in absurd (omega arith)
      go false true c q = let z : ◌≡◌ {A = ℕ} 0 1 = cc in absurd (omega arith)
      go false false false q = let z : ◌≡◌ {A = ℕ} 0 1 = cc in absurd (omega arith)

  pub is_singleton : k ≡ Singleton → true ≡ eqb n 1
  unfolding initialization_of
  is_singleton f = go (eqb n 0) (eqb n 1) (eqb n 2) e
    where
      go : (a b c : Bool) → k ≡ tested a b c → true ≡ b
      go false true c q = refl
      go true b c q = let z : ◌≡◌ {A = ℕ} 0 1 = cc in absurd (omega arith)
      go false false true q = let z : ◌≡◌ {A = ℕ} 0 1 = cc in absurd (omega arith)
      go false false false q = let z : ◌≡◌ {A = ℕ} 0 1 = cc in absurd (omega arith)

  pub not_foreign : (k ≡ Foreign → ⊥) → false ≡ eqb n 2
  unfolding initialization_of
  not_foreign f = sym (ne_eqb n 2 (λ q. f (at_two q)))
    where
      at_two : n ≡ 2 → k ≡ Foreign
      at_two q = rw q at e

  pub not_singleton : (k ≡ Singleton → ⊥) → false ≡ eqb n 1
  unfolding initialization_of
  not_singleton f = sym (ne_eqb n 1 (λ q. f (at_one q)))
    where
      at_one : n ≡ 1 → k ≡ Singleton
      at_one q = rw q at e

-- ---- the kind with a number

pub kind_as : (n k : ℕ) (x : Option BlockKind) → n ≡ k → x ≡ kind_numbered k → x ≡ kind_numbered n
kind_as n k x e f = rw e f

pub no_kind : (n : ℕ) → 11 ≤ n → None ≡ kind_numbered n
unfolding kind_numbered
no_kind n h = sym (slice_get_past (map (λ (r : BlockRow). r.kind) block_table) n h)

none_past : (n : ℕ) → None ≡ kind_numbered n → 11 ≤ n
unfolding kind_numbered
none_past n e = there (map (λ (r : BlockRow). r.kind) block_table) n e
  where
    there : (l : List BlockKind) (n : ℕ) → None ≡ slice_get l n → length l ≤ n
    there [] n e = omega arith
    there (a ∷ l) zero e = let z : ◌≡◌ {A = ℕ} 0 1 = cc in absurd (omega arith)
    there (a ∷ l) (suc n) e = omega (arith, there l n e)

is_kind : (k l : BlockKind) (n : ℕ) → Some k ≡ Some l → n ≡ row_number l → n ≡ row_number k
is_kind k l n e f = let g : k ≡ l = cc in rw g f

kind_at : (n : ℕ) (k : BlockKind) → Some k ≡ kind_numbered n → n ≡ row_number k
unfolding kind_numbered
kind_at zero k e = is_kind k BlockKind.Generic 0 e refl
kind_at (suc zero) k e = is_kind k BlockKind.ResilientSuperclass 1 e refl
kind_at (suc (suc zero)) k e = is_kind k BlockKind.ForeignMetadataInit 2 e refl
kind_at (suc (suc (suc zero))) k e = is_kind k BlockKind.SingletonMetadataInit 3 e refl
kind_at (suc (suc (suc (suc zero)))) k e = is_kind k BlockKind.VTable 4 e refl
kind_at (suc (suc (suc (suc (suc zero))))) k e = is_kind k BlockKind.OverrideTable 5 e refl
kind_at (suc (suc (suc (suc (suc (suc zero)))))) k e = is_kind k BlockKind.ObjcResilientClassStub 6 e refl
kind_at (suc (suc (suc (suc (suc (suc (suc zero))))))) k e = is_kind k BlockKind.Prespecializations 7 e refl
kind_at (suc (suc (suc (suc (suc (suc (suc (suc zero)))))))) k e = is_kind k BlockKind.InvertibleProtocolSet 8 e refl
kind_at (suc (suc (suc (suc (suc (suc (suc (suc (suc zero))))))))) k e = is_kind k BlockKind.SingletonMetadataPointer 9 e refl
kind_at (suc (suc (suc (suc (suc (suc (suc (suc (suc (suc zero)))))))))) k e = is_kind k BlockKind.DefaultOverrideTable 10 e refl
kind_at (suc (suc (suc (suc (suc (suc (suc (suc (suc (suc (suc n))))))))))) k e = let z : ◌≡◌ {A = ℕ} 0 1 = cc in absurd (omega arith)

-- one of which there is a block, and one of which there is none
module _ (t : Trailing) (n : ℕ) where
  pub there_kind : (k : BlockKind) → (row_at (row_number k)).there t ≡ true → Some k ≡ kind_numbered n → Some k ≡ kind_there t n
  unfolding kind_there
  there_kind k y e = let f : (row_at n).there t ≡ true = rw (kind_at n k e) y in rw f e

  pub absent_kind : (k : BlockKind) → (row_at (row_number k)).there t ≡ false → Some k ≡ kind_numbered n → None ≡ kind_there t n
  unfolding kind_there
  absent_kind k y e = let f : (row_at n).there t ≡ false = rw (kind_at n k e) y in rw f

  pub kind_kept : (k : BlockKind) (b : Bool) → b ≡ (row_at (row_number k)).there t → Some k ≡ kind_numbered n → then_some b k ≡ kind_there t n
  kind_kept k true y e = there_kind k (sym y) e
  kind_kept k false y e = absent_kind k (sym y) e

  pub no_kind_there : None ≡ kind_numbered n → None ≡ kind_there t n
  unfolding kind_there
  no_kind_there e = go ((row_at n).there t)
    where
      go : (b : Bool) → None ≡ cond b (kind_numbered n) None
      go true = e
      go false = refl

  pub is_there_lem : (k : BlockKind) → Some k ≡ kind_there t n → ((row_at n).there t ≡ true) × (n ≡ row_number k)
  unfolding kind_there
  is_there_lem k e = go ((row_at n).there t) refl
    where
      go : (b : Bool) → (row_at n).there t ≡ b → ((row_at n).there t ≡ true) × (n ≡ row_number k)
      go true y = let f : Some k ≡ kind_numbered n = e ∙ rw y in (y, kind_at n k f)
      go false y = let f : Some k ≡ None = e ∙ rw y in let z : ◌≡◌ {A = ℕ} 0 1 = cc in absurd (omega arith)

  pub is_absent : None ≡ kind_there t n → (row_at n).there t ≡ false
  unfolding kind_there
  is_absent e = go ((row_at n).there t) refl (kind_numbered n) refl
    where
      go : (b : Bool) → (row_at n).there t ≡ b → (x : Option BlockKind) → kind_numbered n ≡ x → (row_at n).there t ≡ false
      go false y x f = y
      go true y (Some k) f = let g : None ≡ Some k = e ∙ rw (y, f) in let z : ◌≡◌ {A = ℕ} 0 1 = cc in absurd (omega arith)
      go true y None f = sym (no_row n t (none_past n (sym f)))

-- ---- a block

-- by where it ends
pub ends_as : (b : Block) (x y : Option ℕ) → x ≡ y → ◌≡◌ {A = Option Ended} (Some (record { block = b; end = x })) (Some (record { block = b; end = y }))
ends_as b x y e = rw e

module _ (image segments : List ℕ) (r : BlockRow) (a : ℕ) (x : Option Ended) (e : x ≡ run image segments (block_at r a)) where
  pub record_says : option_map (λ y. y.block) x ≡ run image segments (record_at r a)
  unfolding record_at run
  record_says = sym (run_bind image segments (λ y. done y.block) (block_at r a) ∙ rw (← e) (go x))
    where
      go : (x : Option Ended) → and_then x (λ y. run image segments (done y.block)) ≡ option_map (λ y. y.block) x
      go None = refl
      go (Some y) = refl

  pub end_says : and_then x (λ y. y.end) ≡ run image segments (end_at r a)
  unfolding end_at run
  end_says = sym (run_bind image segments (λ y. somewhere y.end) (block_at r a) ∙ rw (← e) (go x))
    where
      at : (o : Option ℕ) → run image segments (somewhere o) ≡ o
      at None = refl
      at (Some n) = refl

      go : (x : Option Ended) → and_then x (λ y. run image segments (somewhere y.end)) ≡ and_then x (λ y. y.end)
      go None = refl
      go (Some y) = at y.end

-- with a header of one byte more than `n`
module _ (image segments : List ℕ) (a n : ℕ) (h : List ℕ) (e : h ≡ bytes_read image segments a (suc n)) (r : BlockRow) (q : r.header ≡ suc n) where
  pub no_header : length h < suc n → None ≡ run image segments (block_at r a)
  unfolding block_at
  no_header l = rw q (sym (run_no_bytes image segments a (suc n) _ h e l))

  module _ (l : suc n ≤ length h) where
    by_header : run image segments (block_at r a) ≡ run image segments (ended r.bounded (record { kind = r.kind; body = r.recorded a h }) (below (a + r.size h)))
    unfolding block_at
    by_header = rw q (run_bytes image segments a (suc n) (λ g. ended r.bounded (record { kind = r.kind; body = r.recorded a g }) (below (a + r.size g))) h e (omega arith) l)

    -- recorded once the header is read
    pub set_says : r.bounded ≡ false → (x : Option Ended) → x ≡ Some (record { block = record { kind = r.kind; body = r.recorded a h }; end = below (a + r.size h) })
        → x ≡ run image segments (block_at r a)
    unfolding run
    set_says f x u = u ∙ sym (by_header ∙ rw f)

    module _ (t : r.bounded ≡ true) where
      pub end_overflows : None ≡ below (a + r.size h) → None ≡ run image segments (block_at r a)
      unfolding run
      end_overflows w = sym (by_header ∙ rw (t, ← w))

      pub block_says : (x : BlockBody) (z : ℕ) → x ≡ r.recorded a h → Some z ≡ below (a + r.size h)
          → Some (record { block = record { kind = r.kind; body = x }; end = Some z }) ≡ run image segments (block_at r a)
      unfolding run
      block_says x z p w = sym (by_header ∙ rw (t, ← w, p))

-- the operation's count of bits is the definition's
pub bits_counted : (n w : ℕ) → w < 2 ^ n → ones w ≡ set_bits n w
unfolding set_bits ones
bits_counted zero w h = let z : w ≡ 0 = omega arith in rw z
bits_counted (suc n) w h = ones_step w ∙ ap (λ (k : ℕ). w % 2 + k) (bits_counted n (w / 2) (omega (arith, pow-suc 2 n)))

pub set_counted : (b w n : ℕ) (x : Option Ended) → b ≡ w → b < 2 ^ 16 → x ≡ Some (record { block = set_block b (ones b); end = below n })
    → x ≡ Some (record { block = set_block w (set_bits 16 w); end = below n })
set_counted b w n x e h u = u ∙ rw (bits_counted 16 b h, e)

-- ---- the walk

pub stepped_to : (b : Block) (w v : BlockIter) → w ≡ v → ◌≡◌ {A = Option BlockStep} (Some (record { block = b; next = w })) (Some (record { block = b; next = v }))
stepped_to b w v e = rw e

module _ (image segments : List ℕ) (t : Trailing) (i a : ℕ) where
  pub step_as : (x : Option Ended) → x ≡ run image segments (block_at (row_at i) a) → option_map (λ y. record { block = y.block; next = after t (i + 1) y.end }) x ≡ step_at image segments t i a
  unfolding step_at
  step_as x e = rw e

  pub step_kind : (k : BlockKind) (x : Option Ended) → i ≡ row_number k → x ≡ run image segments (block_at (row_at (row_number k)) a)
      → option_map (λ y. record { block = y.block; next = after t (i + 1) y.end }) x ≡ step_at image segments t i a
  step_kind k x q e = step_as x (rw q e)

  here : i < 11 → next_block image segments (record { trailing = t; row = i; address = a }) ≡ step_in image segments t (suc (11 - (i + 1))) i a
  unfolding next_block
  here h = ap (λ (n : ℕ). step_in image segments t n i a) (omega arith)

  pub next_there : (x : Option BlockStep) → (row_at i).there t ≡ true → x ≡ step_at image segments t i a → i < 11
      → x ≡ next_block image segments (record { trailing = t; row = i; address = a })
  unfolding step_in
  next_there x y e h = rw (here h, step_in, y) e

  pub next_absent : (row_at i).there t ≡ false → i < 11
      → next_block image segments (record { trailing = t; row = i; address = a }) ≡ next_block image segments (record { trailing = t; row = i + 1; address = a })
  unfolding next_block step_in
  next_absent y h = here h ∙ rw (step_in, y)

  pub walk_over : 11 ≤ i → None ≡ next_block image segments (record { trailing = t; row = i; address = a })
  unfolding next_block step_in
  walk_over h = rw (sub-eq-zero_of_le h)

-- ---- the block of a kind

module _ (image segments : List ℕ) (t : Trailing) where
  module _ (r : BlockRow) (a : ℕ) where
    pub pass_absent : r.there t ≡ false → Some a ≡ run image segments (passed t r a)
    unfolding passed run
    pass_absent y = rw y

    pub pass_there : (x : Option ℕ) → r.there t ≡ true → x ≡ run image segments (end_at r a) → x ≡ run image segments (passed t r a)
    unfolding passed
    pass_there x y e = rw y e

  -- past the kind with a number, if there is a block of it
  module _ (n a : ℕ) where
    pub pass_none : None ≡ kind_there t n → Some a ≡ run image segments (passed t (row_at n) a)
    pass_none e = pass_absent (row_at n) a (is_absent t n e)

    pub pass_kind : (k : BlockKind) (x : Option Ended) → Some k ≡ kind_there t n → x ≡ run image segments (block_at (row_at (row_number k)) a)
        → and_then x (λ y. y.end) ≡ run image segments (passed t (row_at n) a)
    pass_kind k x e f = let w = is_there_lem t n k e in pass_there (row_at n) a _ w.0 (end_says image segments (row_at n) a x (rw w.1 f))

  module _ (start : ℕ) where
    pub reached_start : Some start ≡ run image segments (reached t start 0)
    unfolding reached run
    reached_start = refl

    pub reached_next : (i a : ℕ) (x : Option ℕ) → Some a ≡ run image segments (reached t start i) → x ≡ run image segments (passed t (row_at i) a)
        → x ≡ run image segments (reached t start (i + 1))
    unfolding reached
    reached_next i a x e f = f ∙ rw (add-one i, reached, run_bind, ← e)

    -- a walk that stopped stays stopped
    pub stopped : (n i : ℕ) → None ≡ run image segments (reached t start i) → i ≤ n → None ≡ run image segments (reached t start n)
    unfolding reached
    stopped zero i e h = let z : i ≡ 0 = omega arith in rw z at e
    stopped (suc n) i e h =
        elim (dec_le i n) [
          | yes l ↦ rw (run_bind, ← stopped n i e l)
          | no l ↦ let z : i ≡ suc n = omega arith in rw z at e
        ]

    module _ (n : ℕ) where
      pub kind_stops : (i : ℕ) → None ≡ run image segments (reached t start i) → i ≤ n → None ≡ run image segments (block_in t start n)
      unfolding block_in
      kind_stops i e h =
          rw (run_bind, ← stopped n i e h)

      pub kind_absent : (row_at n).there t ≡ false → None ≡ run image segments (block_in t start n)
      unfolding block_in run
      kind_absent y = rw (run_bind, y) (go (run image segments (reached t start n)))
        where
          go : (x : Option ℕ) → ◌≡◌ {A = Option Block} None (and_then x (λ a. None))
          go None = refl
          go (Some a) = refl

      pub kind_there_lem : (i a : ℕ) (x : Option Block) → (row_at n).there t ≡ true → Some a ≡ run image segments (reached t start i) → i ≡ n
          → x ≡ run image segments (record_at (row_at n) a) → x ≡ run image segments (block_in t start n)
      unfolding block_in
      kind_there_lem i a x y e q f = let g : Some a ≡ run image segments (reached t start n) = rw q at e in f ∙ rw (run_bind, ← g, y)
