-- What holds of the definitions of the blocks: the numbers of the kinds are their places in the table (`kind_row`, `table-length`);
-- stepping from the start gives the blocks of all kinds that are present and can be read (`stepped-blocks-take`, `stepped-blocks`), and
-- then none is left (`stepped-blocks-end`); what the set's count counts (`bits_are`); and that the block of a kind is of that kind, with
-- what its row records (`block-recorded`).
use Prim.Native.Nat.{ℕ, zero, suc, ◌+◌, ◌/◌, ◌%◌, ◌^◌, ◌≤◌, ◌<◌}
use Rattle.std.proofs.Common.{pow-suc, mod-lt, mul_comm, div-one, ◌∙◌, take_all}
use Rattle.std.proofs.Math.Nat.{div-div-eq-div-mul}
use native.Mathlib.Omega.{arith}
use Rattle.std.proofs.Math.Path.{◌≡◌, refl, sym, ap}
use mathlib.Core.List.{List, [], ◌∷◌}
use Rattle.std.specs.Prelude.{Bool, cond, take, drop, eqb, Option, Some, None}
use Rattle.std.proofs.Math.Bool.{true, false}
use Rattle.std.proofs.Math.ListN.{length}
use Rattle.context.specs.Bits.{bit}
use Rattle.runtime.specs.Reads.{Reads, nothing, and_then, run}
use Rattle.runtime.proofs.ReadsLaws.{run_bind}
use Rattle.runtime.proofs.PathLaws.{bytes_read_lem}
use Rattle.classtrailers.specs.Blocks.{Trailing, block_table, set_bits, row_at, read_header, below, Ended, ended, block_at, record_at, reached, block_in, row_number, block, BlockIter, BlockStep, after, next_block, with_block, blocks}
use Rattle.classtrailers.proofs.CallsLaws.{record_says, end_says, step_as, next_there, next_absent, walk_over, pass_absent, pass_there, reached_start, reached_next, stopped, kind_stops, kind_absent, kind_there_lem}
use Rattle.classtrailers.specs.declared.block.Block.{Block}
use Rattle.classtrailers.specs.declared.block.BlockKind.{BlockKind}

-- the blocks that at most `n` steps of a walk give, each step from where the one before it left off
unfoldable pub stepped_blocks : List ℕ → List ℕ → ℕ → BlockIter → List Block
stepped_blocks image segments zero w = []
stepped_blocks image segments (suc n) w =
    elim (next_block image segments w) [ None ↦ [] | Some s ↦ s.block ∷ stepped_blocks image segments n s.next ]

-- and the walk at which they leave off
unfoldable pub stepped_blocks_to : List ℕ → List ℕ → ℕ → BlockIter → BlockIter
stepped_blocks_to image segments zero w = w
stepped_blocks_to image segments (suc n) w =
    elim (next_block image segments w) [ None ↦ w | Some s ↦ stepped_blocks_to image segments n s.next ]

-- ---- the table

pub table_length : length block_table ≡ 11
table_length = refl

-- a kind's number is that of its row
pub kind_row : (k : BlockKind) → (row_at (row_number k)).kind ≡ k
unfolding row_at
kind_row BlockKind.Generic = refl
kind_row BlockKind.ResilientSuperclass = refl
kind_row BlockKind.ForeignMetadataInit = refl
kind_row BlockKind.SingletonMetadataInit = refl
kind_row BlockKind.VTable = refl
kind_row BlockKind.OverrideTable = refl
kind_row BlockKind.ObjcResilientClassStub = refl
kind_row BlockKind.Prespecializations = refl
kind_row BlockKind.InvertibleProtocolSet = refl
kind_row BlockKind.SingletonMetadataPointer = refl
kind_row BlockKind.DefaultOverrideTable = refl

-- ---- stepping

take_none : (n : ℕ) → ◌≡◌ {A = List Block} [] (take n [])
take_none zero = refl
take_none (suc n) = refl

module _ (image segments : List ℕ) where
  -- a walk that has ended stays ended
  stepped_over : (n : ℕ) (w : BlockIter) → None ≡ next_block image segments w → stepped_blocks image segments n w ≡ []
  unfolding stepped_blocks
  stepped_over zero w e = refl
  stepped_over (suc n) w e = rw (stepped_blocks, ← e)

  left_over : (n : ℕ) (w : BlockIter) → None ≡ next_block image segments w → stepped_blocks_to image segments n w ≡ w
  unfolding stepped_blocks_to
  left_over zero w e = refl
  left_over (suc n) w e = rw (stepped_blocks_to, ← e)

  -- two walks whose next step is the same
  stepped_same : (n : ℕ) (v w : BlockIter) → next_block image segments v ≡ next_block image segments w → stepped_blocks image segments n v ≡ stepped_blocks image segments n w
  unfolding stepped_blocks
  stepped_same zero v w e = refl
  stepped_same (suc n) v w e = rw (stepped_blocks, e)

  left_same : (n : ℕ) (v w : BlockIter) → next_block image segments v ≡ next_block image segments w
      → None ≡ next_block image segments (stepped_blocks_to image segments n w) → None ≡ next_block image segments (stepped_blocks_to image segments n v)
  unfolding stepped_blocks_to
  left_same zero v w e h = h ∙ sym e
  left_same (suc n) v w e h = go (next_block image segments w) refl
    where
      go : (x : Option BlockStep) → next_block image segments w ≡ x → None ≡ next_block image segments (stepped_blocks_to image segments (suc n) v)
      go None f = rw (stepped_blocks_to, e, f) (sym (e ∙ f))
      go (Some s) f = rw (stepped_blocks_to, e, f) (rw (stepped_blocks_to, f) at h)

  module _ (t : Trailing) (start : ℕ) where
    abbrev at : ℕ → ℕ → BlockIter
    at i a = record { trailing = t; row = i; address = a }

    over : (i a : ℕ) → 11 ≤ i → None ≡ next_block image segments (at i a)
    over i a h = walk_over image segments t i a h

    -- the blocks of `n` rows from row `i` on
    unfoldable pub blocks_from : ℕ → ℕ → List Block
    blocks_from zero i = []
    blocks_from (suc n) i = with_block (run image segments (block_in t start i)) (blocks_from n (i + 1))

    pub blocks_from_lem : blocks image segments t start ≡ blocks_from 11 0
    unfolding blocks block blocks_from
    blocks_from_lem = refl

    pub blocks_few : (n i : ℕ) → length (blocks_from n i) ≤ n
    unfolding blocks_from
    blocks_few zero i = omega arith
    blocks_few (suc n) i = go (run image segments (block_in t start i)) (blocks_few n (i + 1))
      where
        go : (x : Option Block) → length (blocks_from n (i + 1)) ≤ n → length (with_block x (blocks_from n (i + 1))) ≤ suc n
        go None h = omega arith
        go (Some b) h = omega arith

    none_after : (n i : ℕ) → None ≡ run image segments (reached t start i) → blocks_from n i ≡ []
    unfolding blocks_from
    none_after zero i e = refl
    none_after (suc n) i e =
        let f : None ≡ run image segments (reached t start (i + 1)) = stopped image segments t start (i + 1) i e (omega arith) in
        rw (← kind_stops image segments t start i i e (omega arith)) (none_after n (i + 1) f)

    module _ (i a : ℕ) (h : i < 11) (e : Some a ≡ run image segments (reached t start i)) where
      -- a row whose block is not present: the next one lies at the same address
      pub row_absent : (row_at i).there t ≡ false
          → (Some a ≡ run image segments (reached t start (i + 1))) × (None ≡ run image segments (block_in t start i)) × (next_block image segments (at i a) ≡ next_block image segments (at (i + 1) a))
      row_absent y = (
        reached_next image segments t start i a _ e (pass_absent image segments t (row_at i) a y),
        kind_absent image segments t start i y,
        next_absent image segments t i a y h,
      )

      module _ (y : (row_at i).there t ≡ true) where
        end_reached : (x : Option Ended) → x ≡ run image segments (block_at (row_at i) a) → and_then x (λ z. z.end) ≡ run image segments (reached t start (i + 1))
        end_reached x f = reached_next image segments t start i a _ e (pass_there image segments t (row_at i) a _ y (end_says image segments (row_at i) a x f))

        -- one that cannot be read ends the walk
        pub row_fails : None ≡ run image segments (block_at (row_at i) a)
            → (None ≡ run image segments (reached t start (i + 1))) × (None ≡ run image segments (block_in t start i)) × (None ≡ next_block image segments (at i a))
        row_fails f = (
          end_reached None f,
          kind_there_lem image segments t start i i a _ y e refl (record_says image segments (row_at i) a None f),
          next_there image segments t i a _ y (step_as image segments t i a None f) h,
        )

        -- one that can be read is the next block, and the walk goes on where it ends
        pub row_read : (b : Ended) → Some b ≡ run image segments (block_at (row_at i) a)
            → (Some b.block ≡ run image segments (block_in t start i))
            × (Some (record { block = b.block; next = after t (i + 1) b.end }) ≡ next_block image segments (at i a))
            × (b.end ≡ run image segments (reached t start (i + 1)))
        row_read b f = (
          kind_there_lem image segments t start i i a _ y e refl (record_says image segments (row_at i) a (Some b) f),
          next_there image segments t i a _ y (step_as image segments t i a (Some b) f) h,
          end_reached (Some b) f,
        )

    -- from row `i` on, which lies at `a`, steps give the blocks of the rows that are left
    abbrev Gives : ℕ → ℕ → ℕ → Type 0
    Gives m i a = (n : ℕ) → stepped_blocks image segments n (at i a) ≡ take n (blocks_from m i)

    gives : (m i a : ℕ) → i + m ≡ 11 → Some a ≡ run image segments (reached t start i) → Gives m i a
    unfolding blocks_from stepped_blocks
    gives zero i a h e n = stepped_over n (at i a) (over i a (omega arith)) ∙ take_none n
    gives (suc m) i a h e n = by (λ c f. gives m (i + 1) c (omega arith) f) n ((row_at i).there t) refl
      where
        l : i < 11
        l = omega arith

        on : ((c : ℕ) → Some c ≡ run image segments (reached t start (i + 1)) → Gives m (i + 1) c)
            → (x : Option ℕ) → x ≡ run image segments (reached t start (i + 1)) → (n : ℕ) → stepped_blocks image segments n (after t (i + 1) x) ≡ take n (blocks_from m (i + 1))
        on further None f n = stepped_over n (at 11 0) (over 11 0 (omega arith)) ∙ rw (none_after m (i + 1) f) (take_none n)
        on further (Some c) f n = further c f n

        there : ((c : ℕ) → Some c ≡ run image segments (reached t start (i + 1)) → Gives m (i + 1) c) → (row_at i).there t ≡ true
            → (x : Option Ended) → x ≡ run image segments (block_at (row_at i) a) → Gives (suc m) i a
        there further y None f n =
            let w = row_fails i a l e y f in
            stepped_over n (at i a) w.2 ∙ rw (blocks_from, ← w.1, none_after m (i + 1) w.0) (take_none n)
        there further y (Some b) f zero = refl
        there further y (Some b) f (suc n) =
            let w = row_read i a l e y b f in
            rw (stepped_blocks, ← w.1, blocks_from, ← w.0) (ap (λ (s : List Block). b.block ∷ s) (on further _ w.2 n))

        by : ((c : ℕ) → Some c ≡ run image segments (reached t start (i + 1)) → Gives m (i + 1) c) → (n : ℕ) (b : Bool) → (row_at i).there t ≡ b
            → stepped_blocks image segments n (at i a) ≡ take n (blocks_from (suc m) i)
        by further n true y = there further y (run image segments (block_at (row_at i) a)) refl n
        by further n false y =
            let w = row_absent i a l e y in
            stepped_same n (at i a) (at (i + 1) a) w.2 ∙ further a w.0 n ∙ rw (blocks_from, ← w.1)

    -- `n` steps give the first `n` blocks
    pub stepped_blocks_take : (n : ℕ) → stepped_blocks image segments n (at 0 start) ≡ take n (blocks image segments t start)
    stepped_blocks_take n = gives 11 0 start refl (reached_start image segments t start) n ∙ ap (take n) (sym blocks_from_lem)

    -- and as many as there are kinds, or more, give them all
    pub stepped_blocks_lem : (n : ℕ) → 11 ≤ n → stepped_blocks image segments n (at 0 start) ≡ blocks image segments t start
    stepped_blocks_lem n h = stepped_blocks_take n ∙ take_all n _ (rw blocks_from_lem (omega (arith, blocks_few 11 0)))

    -- then none is left
    abbrev Ends : ℕ → ℕ → ℕ → Type 0
    Ends m i a = (n : ℕ) → m ≤ n → None ≡ next_block image segments (stepped_blocks_to image segments n (at i a))

    ends : (m i a : ℕ) → i + m ≡ 11 → Ends m i a
    unfolding stepped_blocks_to
    ends zero i a h n g = rw (left_over n (at i a) (over i a (omega arith))) (over i a (omega arith))
    ends (suc m) i a h zero g = absurd (omega arith)
    ends (suc m) i a h (suc n) g = by (λ c. ends m (i + 1) c (omega arith)) ((row_at i).there t) refl
      where
        l : i < 11
        l = omega arith

        on : ((c : ℕ) → Ends m (i + 1) c) → (x : Option ℕ) → None ≡ next_block image segments (stepped_blocks_to image segments n (after t (i + 1) x))
        on further None = rw (left_over n (at 11 0) (over 11 0 (omega arith))) (over 11 0 (omega arith))
        on further (Some c) = further c n (omega arith)

        there : ((c : ℕ) → Ends m (i + 1) c) → (row_at i).there t ≡ true → (x : Option Ended) → x ≡ run image segments (block_at (row_at i) a)
            → None ≡ next_block image segments (stepped_blocks_to image segments (suc n) (at i a))
        there further y None f =
            let w : None ≡ next_block image segments (at i a) = next_there image segments t i a _ y (step_as image segments t i a None f) l in
            rw (left_over (suc n) (at i a) w) w
        there further y (Some b) f =
            let w : Some (record { block = b.block; next = after t (i + 1) b.end }) ≡ next_block image segments (at i a)
            = next_there image segments t i a _ y (step_as image segments t i a (Some b) f) l in
            rw (stepped_blocks_to, ← w) (on further b.end)

        by : ((c : ℕ) → Ends m (i + 1) c) → (b : Bool) → (row_at i).there t ≡ b → None ≡ next_block image segments (stepped_blocks_to image segments (suc n) (at i a))
        by further true y = there further y (run image segments (block_at (row_at i) a)) refl
        by further false y = left_same (suc n) (at i a) (at (i + 1) a) (next_absent image segments t i a y l) (further a (suc n) (omega arith))

    pub stepped_blocks_end : (n : ℕ) → 11 ≤ n → None ≡ next_block image segments (stepped_blocks_to image segments n (at 0 start))
    stepped_blocks_end n h = ends 11 0 start refl n h

-- ---- the number of protocols

-- how many of the lowest `n` bits are set, one after the other
unfoldable pub bits_set : ℕ → ℕ → ℕ
bits_set zero w = 0
bits_set (suc n) w = bits_set n w + cond (bit n w) 1 0

bit_is : (x : ℕ) → x < 2 → x ≡ cond (eqb x 1) 1 0
bit_is zero h = refl
bit_is (suc zero) h = refl
bit_is (suc (suc x)) h = absurd (omega arith)

set_next : (n w : ℕ) → set_bits (suc n) w ≡ set_bits n w + w / 2 ^ n % 2
unfolding set_bits
set_next zero w = rw div-one (omega arith)
set_next (suc n) w =
    let q : w / 2 / 2 ^ n ≡ w / 2 ^ suc n = div-div-eq-div-mul w 2 (2 ^ n) ∙ ap (λ (k : ℕ). w / k) (mul_comm 2 (2 ^ n) ∙ sym (pow-suc 2 n)) in
    omega (arith, set_next n (w / 2), ap (λ (k : ℕ). k % 2) q)

pub bits_are : (n w : ℕ) → set_bits n w ≡ bits_set n w
unfolding set_bits bits_set
bits_are zero w = refl
bits_are (suc n) w = set_next n w ∙ rw (bits_are n w) (ap (λ (k : ℕ). bits_set n w + k) (bit_is (w / 2 ^ n % 2) (mod-lt (w / 2 ^ n) (omega arith))))

pub no_bits : set_bits 16 0 ≡ 0
unfolding set_bits
no_bits = refl

pub lowest_bit : set_bits 16 1 ≡ 1
unfolding set_bits
lowest_bit = refl

pub highest_bit : set_bits 16 0x8000 ≡ 1
unfolding set_bits
highest_bit = refl

pub all_bits : set_bits 16 0xffff ≡ 16
unfolding set_bits
all_bits = refl

-- ---- what a block is: of its kind, with what the kind's row records

pub record RecordedAs (k : BlockKind) (x : Block) : Type 0 where
  pub address : ℕ
  pub header : List ℕ
  pub is : x ≡ record { kind = k; body = (row_at (row_number k)).recorded address header }

module _ (image segments : List ℕ) where
  ended_is : (c : Bool) (b : Block) (e : Option ℕ) (x : Ended) → run image segments (ended c b e) ≡ Some x → x.block ≡ b
  unfolding run
  ended_is true b None x f = let z : ◌≡◌ {A = ℕ} 0 1 = cc in absurd (omega arith)
  ended_is true b (Some e) x f = let g : record { block = b; end = Some e } ≡ x = cc in ap (λ (y : Ended). y.block) (sym g)
  ended_is false b e x f = let g : record { block = b; end = e } ≡ x = cc in ap (λ (y : Ended). y.block) (sym g)

  module _ (k : BlockKind) where
    at_recorded : (a : ℕ) (x : Ended) → run image segments (block_at (row_at (row_number k)) a) ≡ Some x → RecordedAs k x.block
    unfolding block_at
    at_recorded a x e = go (row_at (row_number k)).header e
      where
        its : List ℕ → Reads Ended
        its h = ended (row_at (row_number k)).bounded (record { kind = (row_at (row_number k)).kind; body = (row_at (row_number k)).recorded a h }) (below (a + (row_at (row_number k)).size h))

        by : (h : List ℕ) → run image segments (its h) ≡ Some x → RecordedAs k x.block
        by h f =
            record {
              address = a;
              header = h;
              is =
                  ended_is (row_at (row_number k)).bounded _ _ x f
                  ∙ ap (λ (j : BlockKind). record { kind = j; body = (row_at (row_number k)).recorded a h }) (kind_row k);
            }

        go : (n : ℕ) → run image segments (read_header a n its) ≡ Some x → RecordedAs k x.block
        go zero f = by [] f
        go (suc n) f = let w = bytes_read_lem image segments a x (suc n) its f in by (take (suc n) (drop w.offset image)) w.goes

    pub block_recorded : (t : Trailing) (start : ℕ) (x : Block) → run image segments (block t start k) ≡ Some x → RecordedAs k x
    unfolding block block_in record_at run
    block_recorded t start x e = reach (run image segments (reached t start (row_number k))) (sym (run_bind image segments _ (reached t start (row_number k))) ∙ e)
      where
        made : (a : ℕ) (y : Option Ended) → run image segments (block_at (row_at (row_number k)) a) ≡ y → and_then y (λ z. Some z.block) ≡ Some x → RecordedAs k x
        made a None f g = let z : ◌≡◌ {A = ℕ} 0 1 = cc in absurd (omega arith)
        made a (Some y) f g = let q : y.block ≡ x = cc in rw q at (at_recorded a y f)

        there : (a : ℕ) (b : Bool) → run image segments (cond b (record_at (row_at (row_number k)) a) nothing) ≡ Some x → RecordedAs k x
        there a true f = made a (run image segments (block_at (row_at (row_number k)) a)) refl (sym (run_bind image segments _ (block_at (row_at (row_number k)) a)) ∙ f)
        there a false f = let z : ◌≡◌ {A = ℕ} 0 1 = cc in absurd (omega arith)

        reach : (y : Option ℕ) → and_then y (λ a. run image segments (cond ((row_at (row_number k)).there t) (record_at (row_at (row_number k)) a) nothing)) ≡ Some x → RecordedAs k x
        reach None f = let z : ◌≡◌ {A = ℕ} 0 1 = cc in absurd (omega arith)
        reach (Some a) f = there a ((row_at (row_number k)).there t) f
