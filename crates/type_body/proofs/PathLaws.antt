-- Paths as equations (docs/SPECIFICATION.md, "Items, paths and the cut"): of a slot's body, of its blocks and of its singleton records.
use Prim.Native.Nat.{ℕ, ◌+◌, ◌^◌, ◌≤◌, ◌<◌}
use Rattle.std.proofs.Math.Decide.{dec_le}
use native.Mathlib.Omega.{arith}
use Rattle.std.proofs.Math.Path.{◌≡◌, refl, sym, ap}
use Rattle.std.proofs.Common.{◌∙◌, le-leb}
use mathlib.Core.List.{List, [], ◌∷◌, ◌++◌, append_assoc}
use Rattle.std.specs.Prelude.{length, take, drop, Option, Some, None}
use Rattle.std.proofs.lemmas.Bool.{lt-leb}
use Rattle.segment.specs.Segments.{segments_of, file_offset}
use Rattle.util.specs.LittleEndian.{signed_in}
use Rattle.util.specs.Pointer.{relative_address}
use Rattle.context.specs.Context.{context_kind}
use Rattle.context.specs.declared.descriptor.ContextDescriptorKind.{ContextDescriptorKind}
use Rattle.classtrailers.specs.Blocks.{placed_block, block}
use Rattle.classtrailers.proofs.BlocksLaws.{RecordedAs, block_recorded}
use Rattle.classtrailers.specs.declared.block.Block.{Block}
use Rattle.classtrailers.specs.declared.block.BlockKind.{BlockKind}
use Rattle.runtime.specs.Reads.{Reads, done, bytes, run, Range, bytes_range, with_nul, and_then, path, bind}
use Rattle.runtime.proofs.ReadsLaws.{run_bind, path_bind}
use Rattle.runtime.proofs.PathLaws.{path_bytes, bytes_read_lem}
use Rattle.typedescriptor.specs.Row.{TypeRow}
use Rattle.typedescriptor.specs.Slots.{slot_address, slot_row}
use Rattle.type_body.specs.Body.{Body, of_class, of_struct, of_enum, class_body, struct_body, enum_body, body_size, body_bytes, body_of_kind, body, slot_body, trailing, trailing_start}
use Rattle.type_body.specs.Items.{slot_block, slot_init, slot_pointer, init_of_block, pointer_of_block, trailers}
use Rattle.type_body.proofs.ItemsLaws.{start_below_lem}
use Rattle.type_body.specs.Singleton.{Initialization, initialization, slot_target, needing, targets, singleton_init, singleton_pointer}
use Rattle.typedescriptor.proofs.PathLaws.{row_address, slot_program, slot_path}

-- ---- one program after another

-- what the first of them answers, if both have answered
pub record BothRead (image segments : List ℕ) {A B : Type 0} (p : Reads A) (f : A → Reads B) (x : B) : Type 0 where
  pub first : A
  pub there : run image segments p ≡ Some first
  pub goes : run image segments (f first) ≡ Some x

pub both_read : (image segments : List ℕ) {A B : Type 0} (p : Reads A) (f : A → Reads B) (x : B) → run image segments (bind p f) ≡ Some x → BothRead image segments p f x
both_read image segments {A} {B} p f x e = go (run image segments p) refl (sym (run_bind image segments f p) ∙ e)
  where
    go : (y : Option A) → run image segments p ≡ y → and_then y (λ a. run image segments (f a)) ≡ Some x → BothRead image segments p f x
    go None t g = let z : ◌≡◌ {A = ℕ} 0 1 = cc in absurd (omega arith)
    go (Some a) t g = record { first = a; there = t; goes = g }

-- ---- bodies

-- a body that can be read: its bytes end below 2^64 and lie within the image, and they are all that is read
pub record BodyRead (image segments : List ℕ) (a : ℕ) (p : Reads Body) (b : Body) : Type 0 where
  pub below : a + 20 + body_size b < 2 ^ 64
  pub offset : ℕ
  pub at : file_offset (segments_of segments) (a + 20) ≡ Some offset
  pub inside : offset + body_size b ≤ length image
  pub reads : path image segments p ≡ bytes_range offset (body_size b) ∷ []

module _ (image segments : List ℕ) (a : ℕ) (b : Body) where
  body_bytes_read : (n : ℕ) (k : List ℕ → Body) → ((h : List ℕ) → body_size (k h) ≡ n) → run image segments (body_bytes a n k) ≡ Some b
      → BodyRead image segments a (body_bytes a n k) b
  unfolding body_bytes run path
  body_bytes_read n k size e = go (dec_le (2 ^ 64) (a + 20 + n))
    where
      go : Dec (2 ^ 64 ≤ a + 20 + n) → BodyRead image segments a (body_bytes a n k) b
      go (yes l) =
          let f : ◌≡◌ {A = Option Body} None (Some b) = simp (le-leb (2 ^ 64) (a + 20 + n) l) at e in
          let z : ◌≡◌ {A = ℕ} 0 1 = cc in
          absurd (omega arith)
      go (no l) =
          let f : run image segments (bytes (a + 20) n (λ h. done (k h))) ≡ Some b = simp (lt-leb (2 ^ 64) (a + 20 + n) (omega arith)) at e in
          let w = bytes_read_lem image segments (a + 20) b n (λ h. done (k h)) f in
          let g : Some (k (take n (drop w.offset image))) ≡ Some b = w.goes in
          let q : b ≡ k (take n (drop w.offset image)) = cc in
          let s : body_size b ≡ n = ap body_size q ∙ size _ in
          record {
            below = rw s (omega arith);
            offset = w.offset;
            at = w.at;
            inside = rw s w.inside;
            reads = rw s (simp (lt-leb (2 ^ 64) (a + 20 + n) (omega arith)) (path_bytes image segments (a + 20) n (λ h. done (k h)) w.offset w.at w.inside));
          }

  pub body_read : (flags : ℕ) → run image segments (body a flags) ≡ Some b → BodyRead image segments a (body a flags) b
  unfolding body run class_body struct_body enum_body
  body_read flags e = go (context_kind flags) e
    where
      never : ◌≡◌ {A = Option Body} None (Some b) → ⊥
      never f = let z : ◌≡◌ {A = ℕ} 0 1 = cc in omega arith

      go : (k : ContextDescriptorKind) → run image segments (body_of_kind k a flags) ≡ Some b → BodyRead image segments a (body_of_kind k a flags) b
      go ContextDescriptorKind.Class f = body_bytes_read 24 (class_body a flags) (λ h. refl) f
      go ContextDescriptorKind.Struct f = body_bytes_read 8 struct_body (λ h. refl) f
      go ContextDescriptorKind.Enum f = body_bytes_read 8 enum_body (λ h. refl) f
      go ContextDescriptorKind.Module f = absurd (never f)
      go ContextDescriptorKind.Extension f = absurd (never f)
      go ContextDescriptorKind.Anonymous f = absurd (never f)
      go ContextDescriptorKind.Protocol f = absurd (never f)
      go ContextDescriptorKind.OpaqueType f = absurd (never f)
      go (ContextDescriptorKind.Other n) f = absurd (never f)

  -- its blocks start below 2^64
  pub blocks_start_lem : (flags : ℕ) → run image segments (body a flags) ≡ Some b
      → trailers a flags (Some b) ≡ Some (record { trailing = trailing flags b; start = trailing_start a b })
  blocks_start_lem flags e =
      let w = body_read flags e in
      let s : trailing_start a b ≡ a + 20 + body_size b = start_is b in
      sym (start_below_lem (record { trailing = trailing flags b; start = trailing_start a b }) (rw s w.below))
    where
      start_is : (b : Body) → trailing_start a b ≡ a + 20 + body_size b
      start_is (of_class s z m f v) = omega arith
      start_is (of_struct f v) = omega arith
      start_is (of_enum p w e) = omega arith

-- ---- the items of a slot

-- what depends on something that does not exist does not exist
module _ (image segments types : List ℕ) (start i : ℕ) where
  module _ (e : run image segments (slot_row types start i) ≡ None) where
    pub no_row_no_body : run image segments (slot_body types start i) ≡ None
    unfolding slot_body
    no_row_no_body = run_bind image segments _ (slot_row types start i) ∙ rw e

    pub no_row_no_block : (k : BlockKind) → run image segments (slot_block types start i k) ≡ None
    unfolding slot_block
    no_row_no_block k = run_bind image segments _ (slot_row types start i) ∙ rw e

  pub no_block_no_init : run image segments (slot_block types start i BlockKind.SingletonMetadataInit) ≡ None → run image segments (slot_init types start i) ≡ None
  unfolding slot_init
  no_block_no_init e = run_bind image segments init_of_block (slot_block types start i BlockKind.SingletonMetadataInit) ∙ rw e

  pub no_block_no_pointer : run image segments (slot_block types start i BlockKind.SingletonMetadataPointer) ≡ None → run image segments (slot_pointer types start i) ≡ None
  unfolding slot_pointer
  no_block_no_pointer e = run_bind image segments pointer_of_block (slot_block types start i BlockKind.SingletonMetadataPointer) ∙ rw e

-- a slot with a body has a row
pub slot_body_row : (image segments types : List ℕ) (start i : ℕ) (b : Body) → run image segments (slot_body types start i) ≡ Some b
    → BothRead image segments (slot_row types start i) (λ r. body r.address r.flags) b
unfolding slot_body
slot_body_row image segments types start i b e = both_read image segments (slot_row types start i) _ b e

module _ (image segments types : List ℕ) (start i : ℕ) (row : TypeRow) (er : run image segments (slot_row types start i) ≡ Some row) where
  -- a row's address is that to which its slot refers
  pub slot_row_address : row.address ≡ slot_address types start i
  slot_row_address = row_address image segments row (slot_address types start i) (rw (slot_program image segments types start i row er) at er)

  -- a slot's body is its row's
  pub slot_body_lem : run image segments (slot_body types start i) ≡ run image segments (body row.address row.flags)
  unfolding slot_body
  slot_body_lem = run_bind image segments _ (slot_row types start i) ∙ rw er

  slot_body_reads : path image segments (slot_body types start i) ≡ path image segments (slot_row types start i) ++ path image segments (body row.address row.flags)
  unfolding slot_body
  slot_body_reads = path_bind image segments _ (slot_row types start i) ∙ rw er

  pub no_body_no_block : (k : BlockKind) → run image segments (slot_body types start i) ≡ None → run image segments (slot_block types start i k) ≡ None
  unfolding slot_block
  no_body_no_block k e =
      let f : run image segments (body row.address row.flags) ≡ None = sym slot_body_lem ∙ e in
      run_bind image segments _ (slot_row types start i) ∙ rw er (run_bind image segments _ (body row.address row.flags) ∙ rw f)

  module _ (b : Body) (eb : run image segments (slot_body types start i) ≡ Some b) where
    its_body : run image segments (body row.address row.flags) ≡ Some b
    its_body = sym slot_body_lem ∙ eb

    -- the row's path, and the body's 24 or 8 bytes
    pub body_path : (o q : ℕ) → file_offset (segments_of segments) (slot_address types start i) ≡ Some o → file_offset (segments_of segments) (slot_address types start i + 20) ≡ Some q
        → path image segments (slot_body types start i) ≡ bytes_range o 20 ∷ (with_nul image row.name ∷ (bytes_range q (body_size b) ∷ []))
    body_path o q at at' =
        let w = body_read image segments row.address b row.flags its_body in
        let f : Some w.offset ≡ Some q = sym w.at ∙ ap (λ (a : ℕ). file_offset (segments_of segments) (a + 20)) slot_row_address ∙ at' in
        let e : w.offset ≡ q = cc in
        slot_body_reads
        ∙ rw (slot_path image segments types start i row o er at, w.reads, e)

    -- a slot's blocks are its body's
    module _ (k : BlockKind) where
      pub slot_block_lem : run image segments (slot_block types start i k)
          ≡ run image segments (block (trailing row.flags b) (trailing_start row.address b) k)
      unfolding slot_block
      slot_block_lem = run_bind image segments _ (slot_row types start i) ∙ rw er (run_bind image segments _ (body row.address row.flags) ∙ rw its_body)

      -- and read the body's path, and their own
      pub slot_block_path : path image segments (slot_block types start i k)
          ≡ path image segments (slot_body types start i) ++ path image segments (block (trailing row.flags b) (trailing_start row.address b) k)
      unfolding slot_block
      slot_block_path =
          path_bind image segments _ (slot_row types start i)
          ∙ rw (er, slot_body_reads, append_assoc)
          (ap (λ (l : List Range). path image segments (slot_row types start i) ++ l) (path_bind image segments _ (body row.address row.flags) ∙ rw its_body))

-- a slot's block of a kind is of that kind
pub slot_block_recorded : (image segments types : List ℕ) (start i : ℕ) (k : BlockKind) (x : Block) → run image segments (slot_block types start i k) ≡ Some x → RecordedAs k x
unfolding slot_block
slot_block_recorded image segments types start i k x e =
    let w = both_read image segments (slot_row types start i) _ x e in
    let v = both_read image segments (body w.first.address w.first.flags) _ x w.goes in
    block_recorded image segments k (trailing w.first.flags v.first) (trailing_start w.first.address v.first) x v.goes

-- ---- singleton records, from their block

module _ (image segments types : List ℕ) (start i v : ℕ) where
  targets_path : (h : List ℕ) → path image segments (targets v h) ≡ []
  unfolding targets path
  targets_path h = first (slot_target v h 0)
    where
      third : (c i : ℕ) (x : Option ℕ) → path image segments (needing x (λ f. done (initialization c i f))) ≡ []
      third c i None = refl
      third c i (Some f) = refl

      second : (c : ℕ) (x : Option ℕ)
          → path image segments (needing x (λ i. needing (slot_target v h 8) (λ f. done (initialization c i f)))) ≡ []
      second c None = refl
      second c (Some i) = third c i (slot_target v h 8)

      first : (x : Option ℕ)
          → path image segments (needing x (λ c. needing (slot_target v h 4) (λ i. needing (slot_target v h 8) (λ f. done (initialization c i f))))) ≡ []
      first None = refl
      first (Some c) = second c (slot_target v h 4)

  module _ (e : run image segments (slot_block types start i BlockKind.SingletonMetadataInit) ≡ Some (placed_block BlockKind.SingletonMetadataInit v)) where
    pub slot_init_lem : run image segments (slot_init types start i) ≡ run image segments (singleton_init v)
    unfolding slot_init
    slot_init_lem = run_bind image segments init_of_block (slot_block types start i BlockKind.SingletonMetadataInit) ∙ rw e

    -- the block's path, and 12 bytes
    pub init_path : (x : Initialization) (q : ℕ) → run image segments (slot_init types start i) ≡ Some x → file_offset (segments_of segments) v ≡ Some q
        → path image segments (slot_init types start i) ≡ path image segments (slot_block types start i BlockKind.SingletonMetadataInit) ++ (bytes_range q 12 ∷ [])
    unfolding slot_init singleton_init
    init_path x q ex at =
        let w = bytes_read_lem image segments v x 12 (targets v) (sym slot_init_lem ∙ ex) in
        let f : Some w.offset ≡ Some q = sym w.at ∙ at in
        let g : w.offset ≡ q = cc in
        path_bind image segments init_of_block (slot_block types start i BlockKind.SingletonMetadataInit)
        ∙ rw e
        (ap (λ (l : List Range). path image segments (slot_block types start i BlockKind.SingletonMetadataInit) ++ l)
        (path_bytes image segments v 12 (targets v) q at (rw g at w.inside) ∙ rw targets_path))

  module _ (e : run image segments (slot_block types start i BlockKind.SingletonMetadataPointer) ≡ Some (placed_block BlockKind.SingletonMetadataPointer v)) where
    pub slot_pointer_lem : run image segments (slot_pointer types start i) ≡ run image segments (singleton_pointer v)
    unfolding slot_pointer
    slot_pointer_lem = run_bind image segments pointer_of_block (slot_block types start i BlockKind.SingletonMetadataPointer) ∙ rw e

    -- the block's path, and 4 bytes
    pub pointer_path : (x q : ℕ) → run image segments (slot_pointer types start i) ≡ Some x → file_offset (segments_of segments) v ≡ Some q
        → path image segments (slot_pointer types start i) ≡ path image segments (slot_block types start i BlockKind.SingletonMetadataPointer) ++ (bytes_range q 4 ∷ [])
    unfolding slot_pointer singleton_pointer path
    pointer_path x q ex at =
        let k : List ℕ → Reads ℕ = λ h. done (relative_address v (signed_in 4 h 0)) in
        let w = bytes_read_lem image segments v x 4 k (sym slot_pointer_lem ∙ ex) in
        let f : Some w.offset ≡ Some q = sym w.at ∙ at in
        let g : w.offset ≡ q = cc in
        path_bind image segments pointer_of_block (slot_block types start i BlockKind.SingletonMetadataPointer)
        ∙ rw e
        (ap (λ (l : List Range). path image segments (slot_block types start i BlockKind.SingletonMetadataPointer) ++ l)
        (path_bytes image segments v 4 k q at (rw g at w.inside)))
