-- What the laws of items rest on: an answer under another name (`run-map`, `path-map`), and that only its row's name is a text among all
-- that an item reads: what holds of every range of bytes and of the row's path holds of the item's path (`on-item`), and of that of a
-- name's address (`on-name`).
use Prim.Native.Nat.{ℕ, zero, suc, ◌+◌, ◌-◌, ◌*◌, ◌^◌}
use Rattle.std.proofs.Common.{arith, sym, ap, ◌∙◌}
use Rattle.std.specs.Prelude.{◌≡◌, Bool, cond, ◌&&◌, take, drop, leb, ltb, eqb, Option, Some, None, option_map}
use Rattle.std.proofs.Math.Path.{refl}
use mathlib.Core.List.{List, [], ◌∷◌, ◌++◌, append-nil}
use Rattle.std.proofs.Math.Bool.{true, false, and_assoc}
use Rattle.runtime.specs.Reads.{Reads, done, nothing, bytes, and_then, bytes_place, run, Range, bytes_range, also, path, bind, All, every}
use Rattle.runtime.proofs.ReadsLaws.{run_bind, path_bind}
use Rattle.util.specs.LittleEndian.{unsigned_in}
use Rattle.context.specs.Context.{context_kind, has_name}
use Rattle.context.specs.declared.descriptor.ContextDescriptorKind.{ContextDescriptorKind}
use Rattle.classtrailers.specs.Blocks.{BlockRow, row_at, read_header, below, ended, block_at, record_at, somewhere, end_at, passed, reached, block_in, row_number, block}
use Rattle.classtrailers.specs.declared.trailing.Trailing.{Trailing}
use Rattle.classtrailers.specs.declared.block.Block.{Block}
use Rattle.classtrailers.specs.declared.block.BlockKind.{BlockKind}
use Rattle.typedescriptor.specs.Slots.{slot_descriptor, read_at}
use Rattle.type_body.specs.Body.{Body, of_class, of_struct, of_enum, body_bytes, body_of_kind, body, slot_body, trailing, trailing_start}
use Rattle.type_body.specs.Singleton.{initialization, slot_target, needing, targets, singleton_init, singleton_pointer}
use Rattle.type_body.specs.Items.{place_of, slot_block, slot_init, slot_pointer, init_of_block, pointer_of_block}
use Rattle.field_offsets.specs.Offsets.{vector, u32s, field_offsets, slot_offsets}
use Rattle.vtable.specs.Entries.{Layout, entry_size, entry_of, entry_address, entry_at, up_to, entry}
use Rattle.field.specs.Fields.{descriptor_from, given, descriptor_at}
use Rattle.field.specs.Records.{record_layout, records_base, descriptor_record}
use Rattle.parent.specs.Context.{Header, header_in, header}
use Rattle.parent.specs.Chain.{contexts_most, header_at}
use Rattle.items.specs.Keys.{Sections, EntryKind, Key, slot_of}
use Rattle.items.specs.Items.{map_reads, table_kind, entry_layout, table_of, entry_of_slot, context_of_slot, item, row_of_slot, body_of_slot, block_of_slot, init_of_slot, pointer_of_slot, offsets_of_slot}
use Rattle.items.specs.Texts.{NameKey, descriptor_name, slot_name_address, context_name_at, record_name, record_type_name, superclass_at, name_of}

-- ---- an answer under another name

module _ (image segments : List ℕ) {A B : Type 0} (f : A → B) (p : Reads A) where
  pub run_map : run image segments (map_reads f p) ≡ option_map f (run image segments p)
  unfolding map_reads run
  run_map = run_bind image segments (λ a. done (f a)) p ∙ go (run image segments p)
    where
      go : (x : Option A) → and_then x (λ a. Some (f a)) ≡ option_map f x
      go None = refl
      go (Some a) = refl

  pub path_map : path image segments (map_reads f p) ≡ path image segments p
  unfolding map_reads path
  path_map = path_bind image segments (λ a. done (f a)) p ∙ go (run image segments p)
    where
      go : (x : Option A) → path image segments p ++ also x (λ _. []) ≡ path image segments p
      go None = append-nil _
      go (Some a) = append-nil _

-- what depends on something that does not exist does not exist
module _ (image segments : List ℕ) {A B : Type 0} (p : Reads A) (e : run image segments p ≡ None) where
  pub map_none : (f : A → B) → run image segments (map_reads f p) ≡ None
  map_none f = run_map image segments f p ∙ rw e

  pub bind_none : (f : A → Reads B) → run image segments (bind p f) ≡ None
  bind_none f = run_bind image segments f p ∙ rw e

-- a program whose renamed answer is known has the answer under its own name
pub un_map : (image segments : List ℕ) {A B : Type 0} (f : A → B) (p : Reads A) (x : A) → ((a : A) → f a ≡ f x → a ≡ x)
    → run image segments (map_reads f p) ≡ Some (f x) → run image segments p ≡ Some x
un_map image segments {A} f p x same e = go (run image segments p) (sym (run_map image segments f p) ∙ e)
  where
    go : (y : Option A) → option_map f y ≡ Some (f x) → y ≡ Some x
    go None g = let z : ◌≡◌ {A = ℕ} 0 1 = cc in absurd (omega arith)
    go (Some a) g = ap Some (same a (let h : f a ≡ f x = cc in h))

pub un_map_none : (image segments : List ℕ) {A B : Type 0} (f : A → B) (p : Reads A) → run image segments (map_reads f p) ≡ None → run image segments p ≡ None
un_map_none image segments {A} {B} f p e = go (run image segments p) (sym (run_map image segments f p) ∙ e)
  where
    go : (y : Option A) → ◌≡◌ {A = Option B} (option_map f y) None → y ≡ None
    go None g = refl
    go (Some a) g = let z : ◌≡◌ {A = ℕ} 0 1 = cc in absurd (omega arith)

-- ---- what holds of every range of bytes

pub all_append : (P : Range → Type 0) (l m : List Range) → All P l → All P m → All P (l ++ m)
all_append P [] m h g = g
all_append P (r ∷ l) m h g = (h.0, all_append P l m h.1 g)

pub every_append : (t : Range → Bool) (l m : List Range) → every t (l ++ m) ≡ every t l && every t m
every_append t [] m = refl
every_append t (r ∷ l) m = ap (λ (b : Bool). t r && b) (every_append t l m) ∙ sym (and_assoc (t r) (every t l) (every t m))

-- the slot of the row that a text beside an item belongs to; a row's own name has none
abbrev pub beside_row : NameKey → Option ℕ
beside_row (NameKey.descriptor i) = None
beside_row (NameKey.context i k) = Some i
beside_row (NameKey.field j k) = None
beside_row (NameKey.superclass i) = Some i
beside_row (NameKey.field_type j k) = None
beside_row (NameKey.descriptor_type j) = None
beside_row (NameKey.descriptor_superclass j) = None

-- P holds of each range of the path
pub record Each (image segments : List ℕ) (P : Range → Type 0) {A : Type 0} (p : Reads A) : Type 0 where
  pub all : All P (path image segments p)

module _ (image segments : List ℕ) (P : Range → Type 0) (onBytes : (o n : ℕ) → P (bytes_range o n)) where
  abbrev On : {A : Type 0} → Reads A → Type 0
  On p = Each image segments P p

  module _ {A : Type 0} where
    on_done : (a : A) → On (done a)
    unfolding path
    on_done a = record { all = tt }

    on_nothing : On {A = A} nothing
    unfolding path
    on_nothing = record { all = tt }

    on_cond : (b : Bool) {p q : Reads A} → On p → On q → On (cond b p q)
    on_cond true h g = h
    on_cond false h g = g

    on_bytes : (a n : ℕ) {k : List ℕ → Reads A} → ((h : List ℕ) → On (k h)) → On (bytes a n k)
    unfolding path
    on_bytes a n {k} h = record { all = go (bytes_place image segments a n) }
      where
        go : (x : Option ℕ) → All P (also x (λ o. bytes_range o n ∷ path image segments (k (take n (drop o image)))))
        go None = tt
        go (Some o) = (onBytes o n, (h _).all)

    on_needing : {B : Type 0} (x : Option B) {f : B → Reads A} → ((b : B) → On (f b)) → On (needing x f)
    on_needing None h = on_nothing
    on_needing (Some b) h = h b

    on_bind : {B : Type 0} {p : Reads B} {f : B → Reads A} → On p → ((b : B) → On (f b)) → On (bind p f)
    on_bind {B} {p} {f} h g =
        record { all = rw (path_bind image segments f p) (all_append P (path image segments p) _ h.all (go (run image segments p))) }
      where
        go : (x : Option B) → All P (also x (λ b. path image segments (f b)))
        go None = tt
        go (Some b) = (g b).all

    on_header : (a n : ℕ) {k : List ℕ → Reads A} → ((h : List ℕ) → On (k h)) → On (read_header a n k)
    on_header a zero h = h []
    on_header a (suc n) h = on_bytes a (suc n) h

  -- bodies
  pub on_body : (a flags : ℕ) → On (body a flags)
  unfolding body body_bytes
  on_body a flags = go (context_kind flags)
    where
      own : (n : ℕ) (k : List ℕ → Body) → On (body_bytes a n k)
      own n k = on_cond (leb (2 ^ 64) (a + 20 + n)) on_nothing (on_bytes (a + 20) n (λ h. on_done (k h)))

      go : (k : ContextDescriptorKind) → On (body_of_kind k a flags)
      go ContextDescriptorKind.Class = own 24 _
      go ContextDescriptorKind.Struct = own 8 _
      go ContextDescriptorKind.Enum = own 8 _
      go ContextDescriptorKind.Module = on_nothing
      go ContextDescriptorKind.Extension = on_nothing
      go ContextDescriptorKind.Anonymous = on_nothing
      go ContextDescriptorKind.Protocol = on_nothing
      go ContextDescriptorKind.OpaqueType = on_nothing
      go (ContextDescriptorKind.Other n) = on_nothing

  -- blocks
  on_block_at : (r : BlockRow) (a : ℕ) → On (block_at r a)
  unfolding block_at
  on_block_at r a = on_header a r.header (λ h. go r.bounded (record { kind = r.kind; body = r.recorded a h }) (below (a + r.size h)))
    where
      go : (c : Bool) (b : Block) (e : Option ℕ) → On (ended c b e)
      go true b None = on_nothing
      go true b (Some e) = on_done _
      go false b e = on_done _

  on_somewhere : (e : Option ℕ) → On (somewhere e)
  on_somewhere None = on_nothing
  on_somewhere (Some e) = on_done e

  on_reached : (t : Trailing) (start n : ℕ) → On (reached t start n)
  unfolding reached passed end_at
  on_reached t start zero = on_done start
  on_reached t start (suc n) =
      on_bind (on_reached t start n) (λ a. on_cond ((row_at n).there t) (on_bind (on_block_at (row_at n) a) (λ x. on_somewhere x.end)) (on_done a))

  pub on_block : (t : Trailing) (start : ℕ) (k : BlockKind) → On (block t start k)
  unfolding block block_in record_at
  on_block t start k =
      let r : BlockRow = row_at (row_number k) in
      on_bind (on_reached t start (row_number k)) (λ a. on_cond (r.there t) (on_bind (on_block_at r a) (λ x. on_done x.block)) on_nothing)

  -- entries
  on_entry_at : (layout : Layout) (base n : ℕ) → On (entry_at layout base n)
  unfolding entry_at
  on_entry_at layout base n =
      on_cond (leb (2 ^ 64) (entry_address layout base n + (entry_size layout - 4))) on_nothing
      (on_bytes (entry_address layout base n) (entry_size layout) (λ h. on_done (entry_of layout (entry_address layout base n) h)))

  on_up_to : (layout : Layout) (base n : ℕ) → On (up_to layout base n)
  unfolding up_to
  on_up_to layout base zero = on_entry_at layout base 0
  on_up_to layout base (suc n) = on_bind (on_up_to layout base n) (λ _. on_entry_at layout base (suc n))

  pub on_entry : (layout : Layout) (base count k : ℕ) → On (entry layout base count k)
  unfolding entry
  on_entry layout base count k = on_cond (ltb k count) (on_up_to layout base k) on_nothing

  -- singleton records
  pub on_init : (b : Block) → On (init_of_block b)
  unfolding singleton_init targets
  on_init b =
      on_needing (place_of b.body)
      (λ a. on_bytes a 12
      (λ h. on_needing (slot_target a h 0) (λ c. on_needing (slot_target a h 4) (λ i. on_needing (slot_target a h 8) (λ f. on_done (initialization c i f))))))

  pub on_pointer : (b : Block) → On (pointer_of_block b)
  unfolding singleton_pointer
  on_pointer b = on_needing (place_of b.body) (λ a. on_bytes a 4 (λ h. on_done _))

  -- contexts
  on_head : (a : ℕ) → On (header a)
  unfolding header header_in
  on_head a = on_cond (eqb a 0) on_nothing (on_bytes a 8 (λ h. on_cond (leb (2 ^ 64) (a + 4)) on_nothing (on_done _)))

  pub on_context : (k a : ℕ) → On (header_at k a)
  unfolding header_at
  on_context zero a = on_head a
  on_context (suc k) a = on_bind (on_head a) (λ h. on_context k h.parent)

  -- ---- the items

  module _ (s : Sections) (i : ℕ) (row : On (row_of_slot s i)) where
    pub on_slot_body : On (body_of_slot s i)
    unfolding slot_body
    on_slot_body = on_bind row (λ r. on_body r.address r.flags)

    pub on_slot_block : (k : BlockKind) → On (block_of_slot s i k)
    unfolding slot_block
    on_slot_block k =
        on_bind row
        (λ r. on_bind (on_body r.address r.flags) (λ b. on_block (trailing r.flags b) (trailing_start r.address b) k))

    pub on_slot_entry : (e : EntryKind) (k : ℕ) → On (entry_of_slot s i e k)
    unfolding entry_of_slot
    on_slot_entry e k =
        on_bind (on_slot_block (table_kind e))
        (λ b. on_needing (table_of b) (λ t. on_entry (entry_layout e) t.base t.count k))

    pub on_slot_init : On (init_of_slot s i)
    unfolding slot_init
    on_slot_init = on_bind (on_slot_block BlockKind.SingletonMetadataInit) on_init

    pub on_slot_pointer : On (pointer_of_slot s i)
    unfolding slot_pointer
    on_slot_pointer =
        on_bind (on_slot_block BlockKind.SingletonMetadataPointer) on_pointer

    pub on_slot_offsets : (m : ℕ) → On (offsets_of_slot s i m)
    unfolding slot_offsets field_offsets
    on_slot_offsets m = on_bind on_slot_body (λ b. on_needing (vector b m) (λ v. on_bytes v.address (4 * v.count) (λ h. on_done (u32s v.count h))))

    pub on_slot_context : (k : ℕ) → On (context_of_slot s i k)
    unfolding context_of_slot
    on_slot_context k =
        on_cond (ltb k contexts_most) (on_bind row (λ r. on_context k r.parent)) on_nothing

  -- field descriptors and records
  on_given : {A : Type 0} (x : Option A) → On (given x)
  on_given None = on_nothing
  on_given (Some a) = on_done a

  pub on_descriptor : (fields : List ℕ) (start j : ℕ) → On (descriptor_at fields start j)
  unfolding descriptor_at
  on_descriptor fields start j = on_given (descriptor_from fields start 0 j)

  pub on_record : (fields : List ℕ) (start j k : ℕ) → On (descriptor_record fields start j k)
  unfolding descriptor_record
  on_record fields start j k =
      on_bind (on_descriptor fields start j)
      (λ d. on_entry (record_layout d.field_record_size) (records_base d.address) d.num_fields k)

  -- the addresses of names
  on_map : {A B : Type 0} {p : Reads A} (f : A → B) → On p → On (map_reads f p)
  on_map f h = record { all = rw path_map h.all }

  pub on_slot_name : (s : Sections) (i : ℕ) → On (slot_name_address s i)
  unfolding slot_name_address descriptor_name
  on_slot_name s i = go (slot_descriptor s.types s.types_start i)
    where
      go : (t : Option ℕ) → On (read_at t descriptor_name)
      go None = on_nothing
      go (Some a) = on_bytes a 20 (λ h. on_cond (leb (2 ^ 64) (a + 8)) on_nothing (on_done _))

  pub on_context_name : (h : Header) → On (context_name_at h)
  unfolding context_name_at
  on_context_name h =
      on_cond (has_name (context_kind h.flags))
      (on_cond (leb (2 ^ 64) (h.address + 8)) on_nothing
      (on_bytes (h.address + 8) 4 (λ b. on_cond (eqb (unsigned_in 4 b 0) 0) on_nothing (on_done _)))) on_nothing

  on_superclass : (b : Body) → On (superclass_at b)
  on_superclass (of_class a z m f v) = on_done a
  on_superclass (of_struct f v) = on_nothing
  on_superclass (of_enum p w e) = on_nothing

  -- what is read for the address of a name, besides the row of its slot, is bytes
  pub on_name : (s : Sections) (n : NameKey) → ((i : ℕ) → beside_row n ≡ Some i → On (row_of_slot s i)) → On (name_of s n)
  unfolding name_of
  on_name s (NameKey.descriptor i) row = on_slot_name s i
  on_name s (NameKey.context i k) row = on_bind (on_slot_context s i (row i refl) k) on_context_name
  on_name s (NameKey.field j k) row = on_map record_name (on_record s.fields s.fields_start j k)
  on_name s (NameKey.superclass i) row = on_bind (on_slot_body s i (row i refl)) on_superclass
  on_name s (NameKey.field_type j k) row = on_map record_type_name (on_record s.fields s.fields_start j k)
  on_name s (NameKey.descriptor_type j) row = on_map _ (on_descriptor s.fields s.fields_start j)
  on_name s (NameKey.descriptor_superclass j) row = on_map _ (on_descriptor s.fields s.fields_start j)

  -- what an item reads besides the row of its slot is bytes
  pub on_item : (s : Sections) (k : Key) → ((i : ℕ) → slot_of k ≡ Some i → On (row_of_slot s i)) → All P (path image segments (item s k))
  unfolding item
  on_item s (Key.row i) row = rw path_map (row i refl).all
  on_item s (Key.body i) row = rw path_map (on_slot_body s i (row i refl)).all
  on_item s (Key.block i k) row = rw path_map (on_slot_block s i (row i refl) k).all
  on_item s (Key.entry i e k) row = rw path_map (on_slot_entry s i (row i refl) e k).all
  on_item s (Key.initialization i) row = rw path_map (on_slot_init s i (row i refl)).all
  on_item s (Key.pointer i) row = rw path_map (on_slot_pointer s i (row i refl)).all
  on_item s (Key.offsets i m) row = rw path_map (on_slot_offsets s i (row i refl) m).all
  on_item s (Key.context i k) row = rw path_map (on_slot_context s i (row i refl) k).all
  on_item s (Key.field_descriptor j) row = rw path_map (on_descriptor s.fields s.fields_start j).all
  on_item s (Key.field_record j k) row = rw path_map (on_record s.fields s.fields_start j k).all
