-- The calls return the items. Stepping from a walk's start to its end gives the items of a kind, in order and with their keys, and nothing
-- else: the rows of a types section (`rows-listed`), the blocks after a body (`blocks-listed`), the entries of a block (`entries-listed`),
-- the contexts around a row (`contexts-listed`, with their names `contexts-named`), the descriptors of a fields section
-- (`descriptors-listed`) and their records (`records-listed`). What one call reads is its item (`body-listed`, `block_listed`,
-- `init-listed`, `pointer-listed`, `offsets-listed`, `static-offsets-listed`). A slot without a row has no item (`no_row`).
use Prim.Native.Nat.{ℕ, zero, suc, ◌+◌, ◌*◌, ◌≤◌, ◌<◌}
use Rattle.std.proofs.Math.Decide.{dec_lt}
use Rattle.std.proofs.Common.{arith, ◌∙◌, lt-ltb, le-ltb}
use Rattle.std.proofs.Math.Path.{◌≡◌, refl, sym, ap}
use mathlib.Core.List.{List, [], ◌∷◌, map}
use Rattle.std.specs.Prelude.{Bool, cond, length, ltb, Option, Some, None, option_map, slice_get}
use Rattle.std.proofs.Math.Bool.{true, false}
use Rattle.runtime.specs.Reads.{Reads, nothing, and_then, run, bind}
use Rattle.runtime.proofs.ReadsLaws.{run_bind}
use Rattle.classtrailers.specs.Blocks.{placed_block, table_block, BlockRow, block_table, row_at, row_number, block, with_block, blocks_of, blocks}
use Rattle.classtrailers.proofs.BlocksLaws.{stepped_blocks, stepped_blocks_lem, RecordedAs, block_recorded}
use Rattle.classtrailers.specs.declared.block.Block.{Block}
use Rattle.classtrailers.specs.declared.block.BlockKind.{BlockKind}
use Rattle.typedescriptor.specs.Row.{TypeRow}
use Rattle.typedescriptor.specs.Slots.{slots, Found, found, rows_from, rows}
use Rattle.typedescriptor.proofs.RowLaws.{past_slots, refers_nowhere}
use Rattle.typedescriptor.specs.Steps.{stepped_rows}
use Rattle.typedescriptor.proofs.SlotsLaws.{stepped_rows_lem}
use Rattle.type_body.specs.Body.{Body, body, trailing, trailing_start}
use Rattle.type_body.specs.Singleton.{needing, singleton_init, singleton_pointer}
use Rattle.type_body.specs.Items.{slot_pointer, pointer_of_block}
use Rattle.type_body.proofs.PathLaws as Hung
use Rattle.field_offsets.specs.Offsets.{field_offsets, offsets_place, static_place, metadata_at, blocks_start}
use Rattle.field_offsets.specs.declared.offsets.FieldOffsets.{FieldOffsets}
use Rattle.field_offsets.proofs.OffsetsLaws as Vector
use Rattle.field_offsets.proofs.OffsetsLaws.{offset_list}
use Rattle.vtable.specs.Entries.{Layout, method, override, default_override, prespecialization, Entry, entry, start}
use Rattle.vtable.specs.Listed.{listed_entries}
use Rattle.vtable.proofs.ListLaws.{entries_listed_all}
use Rattle.field.specs.declared.iter.FieldDescriptor.{FieldDescriptor}
use Rattle.field.specs.Fields.{descriptor_at}
use Rattle.field.proofs.FieldsLaws.{listed_descriptors, descriptors_listed_all as descriptors-all}
use Rattle.field.specs.Records.{records_of, descriptor_record}
use Rattle.field.proofs.RecordsLaws.{listed_records as steppedRecords, listed_records_lem}
use Rattle.parent.specs.Context.{Header, Context, name, context_name, with_name}
use Rattle.parent.specs.Chain.{contexts_most, header_at, context_at, chain}
use Rattle.parent.proofs.ChainLaws.{chain_at, stepped_chain as steppedContexts, stepped_chain_all}
use Rattle.parent.proofs.PathLaws.{chain_length}
use Rattle.items.specs.Keys.{Sections, EntryKind, Key, Answer, slot_of}
use Rattle.items.specs.Items.{row_of_slot, body_of_slot, block_of_slot, init_of_slot, pointer_of_slot, offsets_of_slot, table_kind, entry_layout, Table, table_of, entry_of_slot, context_of_slot, item}
use Rattle.items.specs.Texts.{NameKey, read_name}
use Rattle.items.specs.Beside.{beside_of}
use Rattle.items.proofs.ProgramLaws.{run_map, un_map, un_map_none, map_none, bind_none}
use Rattle.items.proofs.PremiseLaws.{context_text}
use Rattle.items.proofs.TextsLaws.{of_name, beside_read}

-- a key with its answer
pub record Item : Type 0 where
  pub key : Key
  pub answer : Answer

abbrev pub with_item : Key → Option Answer → List Item → List Item
with_item k None l = l
with_item k (Some a) l = record { key = k; answer = a } ∷ l

-- those of the keys that have an answer, in order
abbrev pub items_of : List ℕ → List ℕ → Sections → List Key → List Item
items_of image segments s [] = []
items_of image segments s (k ∷ ks) = with_item k (run image segments (item s k)) (items_of image segments s ks)

-- ---- rows

-- the keys of the rows of `n` slots from slot `i` on
abbrev pub row_keys : ℕ → ℕ → List Key
row_keys zero i = []
row_keys (suc n) i = Key.row i ∷ row_keys n (suc i)

abbrev pub row_item : Found → Item
row_item f = record { key = Key.row f.slot; answer = Answer.row f.row }

module _ (image segments : List ℕ) (s : Sections) where
  rows_items : (n i : ℕ) → map row_item (rows_from image segments s.types s.types_start n i) ≡ items_of image segments s (row_keys n i)
  unfolding rows_from item
  rows_items zero i = refl
  rows_items (suc n) i = go (rows_items n (suc i)) (run image segments (row_of_slot s i)) refl
    where
      go : map row_item (rows_from image segments s.types s.types_start n (suc i)) ≡ items_of image segments s (row_keys n (suc i))
          → (x : Option TypeRow) → run image segments (row_of_slot s i) ≡ x
          → map row_item (rows_from image segments s.types s.types_start (suc n) i) ≡ items_of image segments s (row_keys (suc n) i)
      go further None e = rw (rows_from, run_map image segments Answer.row (row_of_slot s i), e) further
      go further (Some r) e = rw (rows_from, run_map image segments Answer.row (row_of_slot s i), e) (ap (λ (l : List Item). row_item (found i r) ∷ l) further)

  -- as many steps as there are slots, or more, give the rows of all slots
  pub rows_listed : (n : ℕ) → slots s.types ≤ n
      → map row_item (stepped_rows image segments s.types s.types_start n 0) ≡ items_of image segments s (row_keys (slots s.types) 0)
  unfolding rows
  rows_listed n h = rw (stepped_rows_lem image segments s.types s.types_start n h) (rows_items (slots s.types) 0)

  -- and past the last slot there is none
  pub no_slot : (i : ℕ) → slots s.types ≤ i → run image segments (item s (Key.row i)) ≡ None
  unfolding item
  no_slot i h = run_map image segments Answer.row (row_of_slot s i) ∙ rw (← refers_nowhere image segments s.types s.types_start i (past_slots s.types s.types_start i h))

  -- ---- what belongs to a row

  no_row_no_item : (k : Key) (i : ℕ) → slot_of k ≡ Some i → ((j : ℕ) → slot_of k ≡ Some j → run image segments (row_of_slot s j) ≡ None) → run image segments (item s k) ≡ None
  unfolding item entry_of_slot context_of_slot run
  no_row_no_item (Key.row i) _ _ e = map_none image segments _ (e i refl) _
  no_row_no_item (Key.body i) _ _ e = map_none image segments _ (Hung.no_row_no_body image segments _ _ i (e i refl)) _
  no_row_no_item (Key.block i k) _ _ e = map_none image segments _ (Hung.no_row_no_block image segments _ _ i (e i refl) k) _
  no_row_no_item (Key.entry i t k) _ _ e = map_none image segments _ (bind_none image segments _ (Hung.no_row_no_block image segments _ _ i (e i refl) (table_kind t)) _) _
  no_row_no_item (Key.initialization i) _ _ e = map_none image segments _ (Hung.no_block_no_init image segments _ _ i (Hung.no_row_no_block image segments _ _ i (e i refl) _)) _
  no_row_no_item (Key.pointer i) _ _ e = map_none image segments _ (Hung.no_block_no_pointer image segments _ _ i (Hung.no_row_no_block image segments _ _ i (e i refl) _)) _
  no_row_no_item (Key.offsets i m) _ _ e = map_none image segments _ (Vector.no_body_no_offsets image segments _ _ i m (Hung.no_row_no_body image segments _ _ i (e i refl))) _
  no_row_no_item (Key.context i k) _ _ e = map_none image segments _ (go (ltb k contexts_most)) _
    where
      go : (b : Bool) → run image segments (cond b (bind (row_of_slot s i) (λ r. header_at k r.parent)) nothing) ≡ None
      go true = bind_none image segments (row_of_slot s i) (e i refl) _
      go false = refl
  no_row_no_item (Key.field_descriptor j) i t e = let z : ◌≡◌ {A = ℕ} 0 1 = cc in absurd (omega arith)
  no_row_no_item (Key.field_record j k) i t e = let z : ◌≡◌ {A = ℕ} 0 1 = cc in absurd (omega arith)

  -- a slot without a row has no item
  pub no_row : (k : Key) (i : ℕ) → slot_of k ≡ Some i → run image segments (item s (Key.row i)) ≡ None → run image segments (item s k) ≡ None
  unfolding item
  no_row k i t e = no_row_no_item k i t (λ j u. let q : i ≡ j = cc in rw q at (un_map_none image segments Answer.row (row_of_slot s i) e))

-- ---- blocks

-- the keys of a slot's blocks, in the order of the table
abbrev pub block_keys : ℕ → List BlockKind → List Key
block_keys i [] = []
block_keys i (k ∷ ks) = Key.block i k ∷ block_keys i ks

abbrev pub block_kinds : List BlockKind
block_kinds = map (λ (r : BlockRow). r.kind) block_table

-- each kind is one of them
pub kind_in : (k : BlockKind) → slice_get block_kinds (row_number k) ≡ Some k
kind_in BlockKind.Generic = refl
kind_in BlockKind.ResilientSuperclass = refl
kind_in BlockKind.ForeignMetadataInit = refl
kind_in BlockKind.SingletonMetadataInit = refl
kind_in BlockKind.VTable = refl
kind_in BlockKind.OverrideTable = refl
kind_in BlockKind.ObjcResilientClassStub = refl
kind_in BlockKind.Prespecializations = refl
kind_in BlockKind.InvertibleProtocolSet = refl
kind_in BlockKind.SingletonMetadataPointer = refl
kind_in BlockKind.DefaultOverrideTable = refl

abbrev pub block_item : ℕ → Block → Item
block_item i x = record { key = Key.block i x.kind; answer = Answer.block x }

module _ (image segments : List ℕ) (s : Sections) (i : ℕ) (r : TypeRow) (is_row : run image segments (item s (Key.row i)) ≡ Some (Answer.row r)) where
  the_row : run image segments (row_of_slot s i) ≡ Some r
  unfolding item
  the_row = un_map image segments Answer.row (row_of_slot s i) r (λ a e. cc) is_row

  -- the body that is decoded at a row's address with its flags
  pub body_listed : run image segments (item s (Key.body i)) ≡ option_map Answer.body (run image segments (body r.address r.flags))
  unfolding item
  body_listed = run_map image segments Answer.body (body_of_slot s i) ∙ ap (option_map Answer.body) (Hung.slot_body_lem image segments s.types s.types_start i r the_row)

  -- and without one there are no blocks
  pub no_body : (k : BlockKind) → run image segments (item s (Key.body i)) ≡ None → run image segments (item s (Key.block i k)) ≡ None
  unfolding item
  no_body k e =
      map_none image segments _
      (Hung.no_body_no_block image segments s.types s.types_start i r the_row k (un_map_none image segments Answer.body (body_of_slot s i) e)) _

  module _ (b : Body) (is_IsBody : run image segments (item s (Key.body i)) ≡ Some (Answer.body b)) where
    the_body : run image segments (body_of_slot s i) ≡ Some b
    unfolding item
    the_body = un_map image segments Answer.body (body_of_slot s i) b (λ a e. cc) is_IsBody

    -- the block of a kind
    pub block_listed : (k : BlockKind)
        → run image segments (item s (Key.block i k)) ≡ option_map Answer.block (run image segments (block (trailing r.flags b) (trailing_start r.address b) k))
    unfolding item
    block_listed k =
        run_map image segments Answer.block (block_of_slot s i k)
        ∙ ap (option_map Answer.block) (Hung.slot_block_lem image segments s.types s.types_start i r the_row b the_body k)

    blocks_items : (ks : List BlockKind)
        → map (block_item i) (blocks_of image segments (trailing r.flags b) (trailing_start r.address b) ks) ≡ items_of image segments s (block_keys i ks)
    blocks_items [] = refl
    blocks_items (k ∷ ks) = go (blocks_items ks) (run image segments (block (trailing r.flags b) (trailing_start r.address b) k)) refl
      where
        rest : List Block
        rest = blocks_of image segments (trailing r.flags b) (trailing_start r.address b) ks

        go : map (block_item i) rest ≡ items_of image segments s (block_keys i ks)
            → (x : Option Block) → run image segments (block (trailing r.flags b) (trailing_start r.address b) k) ≡ x
            → map (block_item i) (with_block (run image segments (block (trailing r.flags b) (trailing_start r.address b) k)) rest)
            ≡ with_item (Key.block i k) (run image segments (item s (Key.block i k))) (items_of image segments s (block_keys i ks))
        go further None e = rw (block_listed k, e) further
        go further (Some x) e =
            let q : x.kind ≡ k = ap (λ (y : Block). y.kind) (block_recorded image segments k (trailing r.flags b) (trailing_start r.address b) x e).is in
            rw (block_listed k, e)
            (ap (λ (j : BlockKind). record { key = Key.block i j; answer = Answer.block x } ∷ map (block_item i) rest) q
            ∙ ap (λ (l : List Item). record { key = Key.block i k; answer = Answer.block x } ∷ l) further)

    -- a walk that starts after the body: as many steps as there are kinds, or more, give the blocks of all kinds
    pub blocks_listed : (n : ℕ) → 11 ≤ n
        → map (block_item i) (stepped_blocks image segments n (record { trailing = trailing r.flags b; row = 0; address = trailing_start r.address b }))
        ≡ items_of image segments s (block_keys i block_kinds)
    unfolding blocks
    blocks_listed n h = rw (stepped_blocks_lem image segments (trailing r.flags b) (trailing_start r.address b) n h) (blocks_items block_kinds)

    -- the offsets from the descriptor's own singleton pointer are those for the metadata address that it gives, and without one there are
    -- none
    static_by : static_place image segments r.address r.flags ≡ and_then (run image segments (pointer_of_slot s i)) (offsets_place image segments (Some b))
    unfolding static_place metadata_at slot_pointer
    static_by =
        let its : run image segments (body r.address r.flags) ≡ Some b = sym (Hung.slot_body_lem image segments s.types s.types_start i r the_row) ∙ the_body in
        let metadata : run image segments (metadata_at (blocks_start r.address r.flags b)) ≡ run image segments (pointer_of_slot s i)
        = run_bind image segments pointer_of_block (block (trailing r.flags b) (trailing_start r.address b) BlockKind.SingletonMetadataPointer)
        ∙ rw (sym (Hung.slot_block_lem image segments s.types s.types_start i r the_row b the_body BlockKind.SingletonMetadataPointer))
        (sym (run_bind image segments pointer_of_block (block_of_slot s i BlockKind.SingletonMetadataPointer))) in
        rw (its, metadata)

    pub static_offsets_listed : (m : ℕ) → run image segments (item s (Key.pointer i)) ≡ Some (Answer.pointer m)
        → static_place image segments r.address r.flags ≡ offsets_place image segments (Some b) m
    unfolding item
    static_offsets_listed m is_pointer = static_by ∙ rw (un_map image segments Answer.pointer (pointer_of_slot s i) m (λ a e. cc) is_pointer)

    pub no_static : run image segments (item s (Key.pointer i)) ≡ None → static_place image segments r.address r.flags ≡ None
    unfolding item
    no_static e = static_by ∙ rw (un_map_none image segments Answer.pointer (pointer_of_slot s i) e)

  -- ---- contexts

  past_end : (l : List Context) (k : ℕ) → length l ≤ k → slice_get l k ≡ None
  past_end [] k h = refl
  past_end (c ∷ l) zero h = absurd (omega arith)
  past_end (c ∷ l) (suc k) h = past_end l k (omega arith)

  -- a walk that starts at the row's parent: 256 steps or more give a list whose context `k` is item `k`, for every `k`
  pub contexts_listed : (n k : ℕ) → contexts_most ≤ n
      → option_map (λ (c : Context). Answer.context c.header) (slice_get (steppedContexts image segments n r.parent 0) k) ≡ run image segments (item s (Key.context i k))
  unfolding item context_of_slot run context_at with_name
  contexts_listed n k h =
      rw (stepped_chain_all image segments n r.parent h) (go (dec_lt k contexts_most) ∙ sym (run_map image segments Answer.context (context_of_slot s i k)))
    where
      header : (x : Option Header) → option_map (λ (c : Context). Answer.context c.header) (option_map (with_name image segments) x) ≡ option_map Answer.context x
      header None = refl
      header (Some h) = refl

      go : Dec (k < contexts_most)
          → option_map (λ (c : Context). Answer.context c.header) (slice_get (chain image segments contexts_most r.parent) k)
          ≡ option_map Answer.context (run image segments (context_of_slot s i k))
      go (yes l) =
          let its : run image segments (context_of_slot s i k) ≡ run image segments (header_at k r.parent)
          = simp (lt-ltb k contexts_most l) (run_bind image segments (λ r. header_at k r.parent) (row_of_slot s i) ∙ rw the_row) in
          rw (chain_at image segments contexts_most k r.parent l) (header (run image segments (header_at k r.parent)) ∙ ap (option_map Answer.context) (sym its))
      go (no l) =
          rw (past_end (chain image segments contexts_most r.parent) k (omega (arith, chain_length image segments contexts_most r.parent)))
          (simp (le-ltb k contexts_most (omega arith)))

  -- and its name is the text beside that item, place and bytes
  pub contexts_named : (strings : List ℕ) (start n k : ℕ) → contexts_most ≤ n
      → option_map of_name (and_then (slice_get (steppedContexts image segments n r.parent 0) k) (λ c. c.name)) ≡ beside_of image segments strings start s (NameKey.context i k)
  unfolding context_of_slot run context_at with_name context_name
  contexts_named strings start n k h =
      rw (stepped_chain_all image segments n r.parent h)
      (ap (option_map of_name) (go (dec_lt k contexts_most))
      ∙ sym (beside_read image segments strings start s (NameKey.context i k) refl ∙ ap (option_map of_name) its_run))
    where
      its_run : run image segments (read_name s (NameKey.context i k)) ≡ and_then (run image segments (context_of_slot s i k)) (λ h. run image segments (name h.address h.flags))
      its_run = ap (run image segments) (context_text s i k) ∙ run_bind image segments (λ h. name h.address h.flags) (context_of_slot s i k)

      named : (x : Option Header) → and_then (option_map (with_name image segments) x) (λ c. c.name) ≡ and_then x (λ h. run image segments (name h.address h.flags))
      named None = refl
      named (Some h) = refl

      go : Dec (k < contexts_most)
          → and_then (slice_get (chain image segments contexts_most r.parent) k) (λ c. c.name)
          ≡ and_then (run image segments (context_of_slot s i k)) (λ h. run image segments (name h.address h.flags))
      go (yes l) =
          let its : run image segments (context_of_slot s i k) ≡ run image segments (header_at k r.parent)
          = simp (lt-ltb k contexts_most l) (run_bind image segments (λ r. header_at k r.parent) (row_of_slot s i) ∙ rw the_row) in
          rw (chain_at image segments contexts_most k r.parent l, its) (named (run image segments (header_at k r.parent)))
      go (no l) =
          rw (past_end (chain image segments contexts_most r.parent) k (omega (arith, chain_length image segments contexts_most r.parent)))
          (simp (le-ltb k contexts_most (omega arith)))

-- ---- what belongs to a body

module _ (image segments : List ℕ) (s : Sections) (i m : ℕ) where
  pub no_offsets : run image segments (item s (Key.body i)) ≡ None → run image segments (item s (Key.offsets i m)) ≡ None
  unfolding item
  no_offsets e = map_none image segments _ (Vector.no_body_no_offsets image segments _ _ i m (un_map_none image segments Answer.body (body_of_slot s i) e)) _

  module _ (b : Body) (is_IsBody : run image segments (item s (Key.body i)) ≡ Some (Answer.body b)) where
    its_offsets : run image segments (item s (Key.offsets i m)) ≡ option_map Answer.offsets (run image segments (field_offsets b m))
    unfolding item
    its_offsets =
        run_map image segments Answer.offsets (offsets_of_slot s i m)
        ∙ ap (option_map Answer.offsets) (Vector.slot_offsets_lem image segments s.types s.types_start i m b (un_map image segments Answer.body (body_of_slot s i) b (λ a e. cc) is_IsBody))

    -- the offsets for a metadata address: the numbers of the vector whose place and length the call returns (`offset-nth` has them by their
    -- number)
    pub offsets_listed : run image segments (item s (Key.offsets i m)) ≡ option_map (λ v. Answer.offsets (offset_list image v)) (offsets_place image segments (Some b) m)
    offsets_listed = its_offsets ∙ rw (Vector.offsets_run image segments b m) (go (offsets_place image segments (Some b) m))
      where
        go : (x : Option FieldOffsets) → option_map Answer.offsets (option_map (offset_list image) x) ≡ option_map (λ v. Answer.offsets (offset_list image v)) x
        go None = refl
        go (Some v) = refl

-- ---- what belongs to a block

pub record TableIn (x : Block) : Type 0 where
  pub table : Table
  pub is : table_of x ≡ Some table

table_in_lem : (e : EntryKind) (x : Block) → RecordedAs (table_kind e) x → TableIn x
unfolding row_at
table_in_lem EntryKind.methods x w = record { table = _; is = ap table_of w.is }
table_in_lem EntryKind.overrides x w = record { table = _; is = ap table_of w.is }
table_in_lem EntryKind.default_overrides x w = record { table = _; is = ap table_of w.is }
table_in_lem EntryKind.prespecializations x w = record { table = _; is = ap table_of w.is }

module _ (image segments : List ℕ) (s : Sections) (i : ℕ) where
  module _ (e : EntryKind) where
    -- no entries without their block
    pub no_entry : (k : ℕ) → run image segments (item s (Key.block i (table_kind e))) ≡ None → run image segments (item s (Key.entry i e k)) ≡ None
    unfolding item entry_of_slot
    no_entry k f = map_none image segments _ (bind_none image segments (block_of_slot s i (table_kind e)) (un_map_none image segments Answer.block (block_of_slot s i (table_kind e)) f) _) _

    module _ (x : Block) (is_Block : run image segments (item s (Key.block i (table_kind e))) ≡ Some (Answer.block x)) where
      entries_block : run image segments (block_of_slot s i (table_kind e)) ≡ Some x
      unfolding item
      entries_block = un_map image segments Answer.block (block_of_slot s i (table_kind e)) x (λ a f. cc) is_Block

      -- the block has them
      pub has_entries : TableIn x
      has_entries = table_in_lem e x (Hung.slot_block_recorded image segments _ _ i (table_kind e) x entries_block)

      -- a walk that starts at them: as many steps as there are entries, or more, give a list whose entry `k` is item `k`, for every `k`
      pub entries_listed : (t : Table) → table_of x ≡ Some t → (n k : ℕ) → t.count ≤ n
          → option_map Answer.entry (slice_get (listed_entries image segments (entry_layout e) n (start t.base t.count)) k) ≡ run image segments (item s (Key.entry i e k))
      unfolding item entry_of_slot
      entries_listed t is-table n k h =
          let p : Block → Reads Entry = λ b. needing (table_of b) (λ t. entry (entry_layout e) t.base t.count k) in
          let its : run image segments (entry_of_slot s i e k) ≡ run image segments (entry (entry_layout e) t.base t.count k)
          = run_bind image segments p (block_of_slot s i (table_kind e)) ∙ rw (entries_block, is-table) in
          ap (option_map Answer.entry) (entries_listed_all image segments (entry_layout e) t.base t.count n k h ∙ sym its)
          ∙ sym (run_map image segments Answer.entry (entry_of_slot s i e k))

  -- for the four kinds: the calls that step, and their arguments
  module _ (count base n k : ℕ) (h : count ≤ n) where
    -- the entries that a walk from a table's start gives
    abbrev steps : Layout → Option Answer
    steps layout = option_map Answer.entry (slice_get (listed_entries image segments layout n (start base count)) k)

    pub methods_listed : (offset : ℕ) → run image segments (item s (Key.block i BlockKind.VTable)) ≡ Some (Answer.block (table_block BlockKind.VTable offset count base))
        → steps method ≡ run image segments (item s (Key.entry i EntryKind.methods k))
    methods_listed offset e = entries_listed EntryKind.methods (table_block BlockKind.VTable offset count base) e (record { count = count; base = base }) refl n k h

    pub overrides_listed : run image segments (item s (Key.block i BlockKind.OverrideTable)) ≡ Some (Answer.block (table_block BlockKind.OverrideTable 0 count base))
        → steps override ≡ run image segments (item s (Key.entry i EntryKind.overrides k))
    overrides_listed e = entries_listed EntryKind.overrides (table_block BlockKind.OverrideTable 0 count base) e (record { count = count; base = base }) refl n k h

    pub default_overrides_listed : run image segments (item s (Key.block i BlockKind.DefaultOverrideTable)) ≡ Some (Answer.block (table_block BlockKind.DefaultOverrideTable 0 count base))
        → steps default_override ≡ run image segments (item s (Key.entry i EntryKind.default_overrides k))
    default_overrides_listed e = entries_listed EntryKind.default_overrides (table_block BlockKind.DefaultOverrideTable 0 count base) e (record { count = count; base = base }) refl n k h

    pub prespecializations_listed : run image segments (item s (Key.block i BlockKind.Prespecializations)) ≡ Some (Answer.block (table_block BlockKind.Prespecializations 0 count base))
        → steps prespecialization ≡ run image segments (item s (Key.entry i EntryKind.prespecializations k))
    prespecializations_listed e = entries_listed EntryKind.prespecializations (table_block BlockKind.Prespecializations 0 count base) e (record { count = count; base = base }) refl n k h

  -- the singleton records, each at its block's address
  pub no_init : run image segments (item s (Key.block i BlockKind.SingletonMetadataInit)) ≡ None → run image segments (item s (Key.initialization i)) ≡ None
  unfolding item
  no_init f = map_none image segments _ (Hung.no_block_no_init image segments _ _ i (un_map_none image segments Answer.block (block_of_slot s i BlockKind.SingletonMetadataInit) f)) _

  pub init_listed : (v : ℕ) → run image segments (item s (Key.block i BlockKind.SingletonMetadataInit)) ≡ Some (Answer.block (placed_block BlockKind.SingletonMetadataInit v))
      → run image segments (item s (Key.initialization i)) ≡ option_map Answer.initialization (run image segments (singleton_init v))
  unfolding item
  init_listed v f =
      run_map image segments Answer.initialization (init_of_slot s i)
      ∙ ap (option_map Answer.initialization)
      (Hung.slot_init_lem image segments s.types s.types_start i v (un_map image segments Answer.block (block_of_slot s i BlockKind.SingletonMetadataInit) (placed_block BlockKind.SingletonMetadataInit v) (λ a e. cc) f))

  pub no_pointer : run image segments (item s (Key.block i BlockKind.SingletonMetadataPointer)) ≡ None → run image segments (item s (Key.pointer i)) ≡ None
  unfolding item
  no_pointer f = map_none image segments _ (Hung.no_block_no_pointer image segments _ _ i (un_map_none image segments Answer.block (block_of_slot s i BlockKind.SingletonMetadataPointer) f)) _

  pub pointer_listed : (v : ℕ) → run image segments (item s (Key.block i BlockKind.SingletonMetadataPointer)) ≡ Some (Answer.block (placed_block BlockKind.SingletonMetadataPointer v))
      → run image segments (item s (Key.pointer i)) ≡ option_map Answer.pointer (run image segments (singleton_pointer v))
  unfolding item
  pointer_listed v f =
      run_map image segments Answer.pointer (pointer_of_slot s i)
      ∙ ap (option_map Answer.pointer)
      (Hung.slot_pointer_lem image segments s.types s.types_start i v (un_map image segments Answer.block (block_of_slot s i BlockKind.SingletonMetadataPointer) (placed_block BlockKind.SingletonMetadataPointer v) (λ a e. cc) f))

-- ---- fields

module _ (image segments : List ℕ) (s : Sections) where
  -- a walk over the fields section: as many steps as it has room for headers give a list whose descriptor `k` is item `k`, for every `k`
  pub descriptors_listed : (n k : ℕ) → length s.fields < 16 * (n + 1)
      → option_map Answer.field_descriptor (slice_get (listed_descriptors s.fields s.fields_start n 0) k) ≡ run image segments (item s (Key.field_descriptor k))
  unfolding item
  descriptors_listed n k h =
      ap (option_map Answer.field_descriptor) (descriptors-all s.fields s.fields_start image segments n k h)
      ∙ sym (run_map image segments Answer.field_descriptor (descriptor_at s.fields s.fields_start k))

  module _ (j : ℕ) where
    -- no records without their descriptor
    pub no_record : (k : ℕ) → run image segments (item s (Key.field_descriptor j)) ≡ None → run image segments (item s (Key.field_record j k)) ≡ None
    unfolding item descriptor_record
    no_record k e =
        map_none image segments _
        (bind_none image segments (descriptor_at s.fields s.fields_start j)
        (un_map_none image segments Answer.field_descriptor (descriptor_at s.fields s.fields_start j) e) _) _

    -- a walk over a descriptor's records: as many steps as it has records, or more, give a list whose record `k` is item `k`, for every `k`
    pub records_listed : (d : FieldDescriptor) → run image segments (item s (Key.field_descriptor j)) ≡ Some (Answer.field_descriptor d)
        → (n k : ℕ) → d.num_fields ≤ n
        → option_map Answer.field_record (slice_get (steppedRecords image segments n (records_of d)) k) ≡ run image segments (item s (Key.field_record j k))
    unfolding item
    records_listed d is-descriptor n k h =
        ap (option_map Answer.field_record)
        (listed_records_lem image segments d s.fields s.fields_start j
        (un_map image segments Answer.field_descriptor (descriptor_at s.fields s.fields_start j) d (λ a f. cc) is-descriptor) n k h)
        ∙ sym (run_map image segments Answer.field_record (descriptor_record s.fields s.fields_start j k))
