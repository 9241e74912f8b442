-- The path of a block, the headers of earlier blocks and its own (docs/SPECIFICATION.md, "Items, paths and the cut"), as an equation.
use Prim.Native.Nat.{ℕ, zero, suc, ◌+◌}
use Rattle.std.proofs.Common.{arith, sym, ◌∙◌}
use Rattle.std.proofs.Math.Path.{◌≡◌, refl}
use mathlib.Core.List.{List, [], ◌∷◌, ◌++◌, append-nil}
use Rattle.std.specs.Prelude.{Bool, take, drop, Option, Some, None}
use Rattle.std.proofs.Math.Bool.{true, false, cond}
use Rattle.segment.specs.Segments.{segments_of, file_offset}
use Rattle.runtime.specs.Reads.{Reads, done, nothing, bind, run, Range, bytes_range, also, path}
use Rattle.runtime.proofs.ReadsLaws.{run_bind, path_bind}
use Rattle.runtime.proofs.PathLaws.{path_bytes, bytes_read_lem}
use Rattle.classtrailers.specs.Blocks.{Trailing, BlockRow, row_at, read_header, below, Ended, ended, block_at, record_at, somewhere, end_at, passed, reached, block_in, row_number, block}
use Rattle.classtrailers.specs.declared.block.Block.{Block}
use Rattle.classtrailers.specs.declared.block.BlockKind.{BlockKind}

-- the image bytes of a header of a size at an address; none if the size is 0
abbrev pub header_range : List ℕ → ℕ → ℕ → List Range
header_range segments a zero = []
header_range segments a (suc n) = also (file_offset (segments_of segments) a) (λ o. bytes_range o (suc n) ∷ [])

-- that of row `n`, if its block is present
abbrev pub row_range : List ℕ → Trailing → ℕ → ℕ → List Range
row_range segments t n a = cond ((row_at n).there t) (header_range segments a (row_at n).header) []

-- those of the first `n` rows, each at the address where the blocks before it end
unfoldable pub headers : List ℕ → List ℕ → Trailing → ℕ → ℕ → List Range
headers image segments t start zero = []
headers image segments t start (suc n) =
    headers image segments t start n ++ also (run image segments (reached t start n)) (row_range segments t n)

module _ (image segments : List ℕ) where
  module _ {A : Type 0} (x : A) where
    -- a header, and nothing read after it
    header_path : (a n : ℕ) (k : List ℕ → Reads A) → ((h : List ℕ) → path image segments (k h) ≡ []) → Some x ≡ run image segments (read_header a n k)
        → path image segments (read_header a n k) ≡ header_range segments a n
    header_path a zero k e r = e []
    header_path a (suc n) k e r =
        let w = bytes_read_lem image segments a x (suc n) k (sym r) in
        path_bytes image segments a (suc n) k w.offset w.at w.inside
        ∙ rw (w.at, e (take (suc n) (drop w.offset image)))

  module _ (r : BlockRow) (a : ℕ) where
    ended_path : (c : Bool) (b : Block) (e : Option ℕ) → path image segments (ended c b e) ≡ []
    unfolding path
    ended_path true b None = refl
    ended_path true b (Some e) = refl
    ended_path false b e = refl

    somewhere_path : (e : Option ℕ) → path image segments (somewhere e) ≡ []
    unfolding path
    somewhere_path None = refl
    somewhere_path (Some e) = refl

    -- what is made from a block reads no more than its header
    made_path : {A : Type 0} (f : Ended → Reads A) → ((y : Ended) → path image segments (f y) ≡ []) → (x : A) → Some x ≡ run image segments (bind (block_at r a) f)
        → path image segments (bind (block_at r a) f) ≡ header_range segments a r.header
    unfolding block_at
    made_path {A} f nil x e = go (run image segments (block_at r a)) refl
      where
        go : (y : Option Ended) → run image segments (block_at r a) ≡ y → path image segments (bind (block_at r a) f) ≡ header_range segments a r.header
        go None g =
            let w : Some x ≡ None = e ∙ rw (run_bind, g) in
            let z : ◌≡◌ {A = ℕ} 0 1 = cc in
            absurd (omega arith)
        go (Some y) g =
            path_bind image segments f (block_at r a)
            ∙ rw (g, header_path y a r.header _ (λ h. ended_path r.bounded (record { kind = r.kind; body = r.recorded a h }) (below (a + r.size h))) (sym g), nil y)
            (append-nil (header_range segments a r.header))

    pub block_record_path : (b : Block) → Some b ≡ run image segments (record_at r a) → path image segments (record_at r a) ≡ header_range segments a r.header
    unfolding record_at path
    block_record_path b e = made_path (λ y. done y.block) (λ y. refl) b e

    pub end_path : (e : ℕ) → Some e ≡ run image segments (end_at r a) → path image segments (end_at r a) ≡ header_range segments a r.header
    unfolding end_at
    end_path e f = made_path (λ y. somewhere y.end) (λ y. somewhere_path y.end) e f

  module _ (t : Trailing) (start : ℕ) where
    passed_path : (n a e : ℕ) → Some e ≡ run image segments (passed t (row_at n) a) → path image segments (passed t (row_at n) a) ≡ row_range segments t n a
    unfolding passed path
    passed_path n a e f = go ((row_at n).there t) f
      where
        go : (c : Bool) → Some e ≡ run image segments (cond c (end_at (row_at n) a) (done a))
            → path image segments (cond c (end_at (row_at n) a) (done a)) ≡ cond c (header_range segments a (row_at n).header) []
        go true g = end_path (row_at n) a e g
        go false g = refl

    recorded_path : (n a : ℕ) (b : Block) → Some b ≡ run image segments (cond ((row_at n).there t) (record_at (row_at n) a) nothing)
        → path image segments (cond ((row_at n).there t) (record_at (row_at n) a) nothing) ≡ row_range segments t n a
    unfolding run
    recorded_path n a b f = go ((row_at n).there t) f
      where
        go : (c : Bool) → Some b ≡ run image segments (cond c (record_at (row_at n) a) nothing)
            → path image segments (cond c (record_at (row_at n) a) nothing) ≡ cond c (header_range segments a (row_at n).header) []
        go true g = block_record_path (row_at n) a b g
        go false g = let z : ◌≡◌ {A = ℕ} 0 1 = cc in absurd (omega arith)

    -- where a row lies: the headers of those before it
    pub reached_path : (n a : ℕ) → Some a ≡ run image segments (reached t start n) → path image segments (reached t start n) ≡ headers image segments t start n
    unfolding reached headers path
    reached_path zero a e = refl
    reached_path (suc n) a e = go (λ c f. reached_path n c f) (run image segments (reached t start n)) refl
      where
        go : ((c : ℕ) → Some c ≡ run image segments (reached t start n) → path image segments (reached t start n) ≡ headers image segments t start n)
            → (x : Option ℕ) → run image segments (reached t start n) ≡ x → path image segments (reached t start (suc n)) ≡ headers image segments t start (suc n)
        go further None f =
            let g : Some a ≡ None = e ∙ rw (run_bind, f) in
            let z : ◌≡◌ {A = ℕ} 0 1 = cc in
            absurd (omega arith)
        go further (Some c) f =
            let g : Some a ≡ run image segments (passed t (row_at n) c) = e ∙ rw (run_bind, f) in
            rw (path_bind, headers, f, further c (sym f), passed_path n c a g)

    -- a block: the headers of those before it that are present, and its own
    pub block_row_path : (n : ℕ) (b : Block) → Some b ≡ run image segments (block_in t start n) → path image segments (block_in t start n) ≡ headers image segments t start (suc n)
    unfolding block_in headers
    block_row_path n b e = go (run image segments (reached t start n)) refl
      where
        go : (x : Option ℕ) → run image segments (reached t start n) ≡ x → path image segments (block_in t start n) ≡ headers image segments t start (suc n)
        go None f =
            let g : Some b ≡ None = e ∙ rw (run_bind, f) in
            let z : ◌≡◌ {A = ℕ} 0 1 = cc in
            absurd (omega arith)
        go (Some a) f =
            let g : Some b ≡ run image segments (cond ((row_at n).there t) (record_at (row_at n) a) nothing) = e ∙ rw (run_bind, f) in
            rw (path_bind, headers, f, reached_path n a (sym f), recorded_path n a b g)

    pub block_path : (k : BlockKind) (b : Block) → Some b ≡ run image segments (block t start k)
        → path image segments (block t start k) ≡ headers image segments t start (suc (row_number k))
    unfolding block
    block_path k b e = block_row_path (row_number k) b e
