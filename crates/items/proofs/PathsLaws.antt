-- The paths of the items are those of docs/SPECIFICATION.md, "Items, paths and the cut": an equation for each kind of item, each with the
-- path of the item that it belongs to.
use Rattle.std.specs.Prelude.{ℕ, suc, ◌+◌, ◌*◌, ◌<◌, ◌≡◌, Option, Some, None, unwrap_or}
use Rattle.std.proofs.Math.Decide.{dec_lt}
use Rattle.std.proofs.Common.{arith, ◌∙◌, lt-ltb, le-ltb}
use Rattle.std.proofs.Math.Path.{sym, ap}
use mathlib.Core.List.{List, [], ◌∷◌, ◌++◌}
use Rattle.util.specs.LittleEndian.{signed_in}
use Rattle.util.specs.Pointer.{relative_address}
use Rattle.segment.specs.Segments.{segments_of, file_offset}
use Rattle.runtime.specs.Reads.{Reads, done, bytes, run, Range, bytes_range, with_nul, path, bind}
use Rattle.runtime.proofs.ReadsLaws.{run_bind, path_bind}
use Rattle.runtime.proofs.PathLaws.{bytes_read_lem}
use Rattle.classtrailers.specs.Blocks.{placed_block, row_number}
use Rattle.classtrailers.proofs.PathLaws.{headers, block_path as own-headers}
use Rattle.classtrailers.specs.declared.block.Block.{Block}
use Rattle.classtrailers.specs.declared.block.BlockKind.{BlockKind}
use Rattle.typedescriptor.specs.Row.{TypeRow, row_name, descriptor}
use Rattle.typedescriptor.specs.Slots.{slot_address}
use Rattle.type_body.specs.Body.{Body, of_struct, body_size, trailing, trailing_start}
use Rattle.type_body.specs.Singleton.{Initialization, needing, targets, singleton_init, singleton_pointer}
use Rattle.typedescriptor.proofs.PathLaws as Slot
use Rattle.type_body.proofs.PathLaws as Hung
use Rattle.field_offsets.specs.Offsets.{u32s, field_offsets}
use Rattle.field_offsets.proofs.OffsetsLaws as Vector
use Rattle.vtable.specs.Entries.{Entry, entry}
use Rattle.vtable.proofs.PathLaws.{offset_or_zero, ranges, entry_path as own-entries}
use Rattle.field.specs.declared.iter.FieldDescriptor.{FieldDescriptor}
use Rattle.field.specs.Fields.{descriptor_at}
use Rattle.field.specs.Records.{record_layout, records_base, descriptor_record}
use Rattle.field.proofs.PathLaws.{descriptor_path as no_bytes, record_path as own-records}
use Rattle.parent.specs.Context.{Header}
use Rattle.parent.specs.Chain.{contexts_most, header_at, chain}
use Rattle.parent.proofs.PathLaws.{context_ranges, context_path as own-headers-of}
use Rattle.items.specs.Keys.{Sections, EntryKind, Key, Answer}
use Rattle.items.specs.Items.{table_kind, entry_layout, Table, table_of, entry_of_slot, context_of_slot, item, row_of_slot, body_of_slot, block_of_slot, init_of_slot, pointer_of_slot, offsets_of_slot}
use Rattle.items.proofs.ProgramLaws.{path_map, un_map}

-- `n` bytes at an address
abbrev pub range_at : List ℕ → ℕ → ℕ → Range
range_at segments a n = bytes_range (offset_or_zero segments a) n

-- the offset of an address, if it has one, is the offset that ranges are counted from
placed : (segments : List ℕ) (a o : ℕ) → file_offset (segments_of segments) a ≡ Some o → file_offset (segments_of segments) a ≡ Some (offset_or_zero segments a)
placed segments a o e = e ∙ ap Some (sym (ap (λ (x : Option ℕ). unwrap_or x 0) e))

-- a context's number is below 256
context_numbered : (image segments : List ℕ) (s : Sections) (i k : ℕ) (h : Header) → run image segments (context_of_slot s i k) ≡ Some h
    → context_of_slot s i k ≡ bind (row_of_slot s i) (λ r. header_at k r.parent)
unfolding context_of_slot run
context_numbered image segments s i k h e = go (dec_lt k contexts_most)
  where
    go : Dec (k < contexts_most) → context_of_slot s i k ≡ bind (row_of_slot s i) (λ r. header_at k r.parent)
    go (yes l) = simp (lt-ltb k contexts_most l)
    go (no l) =
        let f : ◌≡◌ {A = Option Header} None (Some h) = simp (le-ltb k contexts_most (omega arith)) at e in
        let z : ◌≡◌ {A = ℕ} 0 1 = cc in
        absurd (omega arith)

module _ (image segments : List ℕ) (s : Sections) (i : ℕ) (r : TypeRow) (er : run image segments (row_of_slot s i) ≡ Some r) (k : ℕ) (h : Header) where
  context_run : run image segments (bind (row_of_slot s i) (λ r. header_at k r.parent)) ≡ Some h → run image segments (header_at k r.parent) ≡ Some h
  context_run e = rw er at (sym (run_bind image segments (λ r. header_at k r.parent) (row_of_slot s i)) ∙ e)

  context_reads : run image segments (context_of_slot s i k) ≡ Some h
      → path image segments (context_of_slot s i k) ≡ path image segments (row_of_slot s i) ++ context_ranges segments (chain image segments (suc k) r.parent)
  context_reads e =
      ap (path image segments) (context_numbered image segments s i k h e)
      ∙ path_bind image segments (λ r. header_at k r.parent) (row_of_slot s i)
      ∙ rw (er, own-headers-of image segments k r.parent h (context_run (rw (context_numbered image segments s i k h e) at e)))

module _ (image segments : List ℕ) where
  module _ (s : Sections) (i : ℕ) where
    -- the address that the slot refers to
    abbrev address : ℕ
    address = slot_address s.types s.types_start i

    -- ---- rows

    module _ (r : TypeRow) (is_row : run image segments (item s (Key.row i)) ≡ Some (Answer.row r)) where
      the_row : run image segments (row_of_slot s i) ≡ Some r
      unfolding item
      the_row = un_map image segments Answer.row (row_of_slot s i) r (λ a e. cc) is_row

      row_placed : file_offset (segments_of segments) address ≡ Some (offset_or_zero segments address)
      unfolding descriptor
      row_placed =
          let p = Slot.slot_program image segments s.types s.types_start i r the_row in
          let w = bytes_read_lem image segments address r 20 (row_name address) (rw p at the_row) in
          placed segments address w.offset w.at

      -- 20 bytes, and the name with its NUL
      pub item_row_path : path image segments (item s (Key.row i)) ≡ range_at segments address 20 ∷ (with_nul image r.name ∷ [])
      unfolding item
      item_row_path =
          path_map image segments Answer.row (row_of_slot s i)
          ∙ Slot.slot_path image segments s.types s.types_start i r (offset_or_zero segments address) the_row row_placed

      -- ---- bodies

      module _ (b : Body) (is_IsBody : run image segments (item s (Key.body i)) ≡ Some (Answer.body b)) where
        the_body : run image segments (body_of_slot s i) ≡ Some b
        unfolding item
        the_body = un_map image segments Answer.body (body_of_slot s i) b (λ a e. cc) is_IsBody

        body_placed : file_offset (segments_of segments) (address + 20) ≡ Some (offset_or_zero segments (address + 20))
        body_placed =
            let q = Hung.slot_row_address image segments s.types s.types_start i r the_row in
            let w = Hung.body_read image segments r.address b r.flags (sym (Hung.slot_body_lem image segments s.types s.types_start i r the_row) ∙ the_body) in
            placed segments (address + 20) w.offset (sym (ap (λ (a : ℕ). file_offset (segments_of segments) (a + 20)) q) ∙ w.at)

        -- the row's path, and the body's 24 or 8 bytes
        pub item_body_path : path image segments (item s (Key.body i)) ≡ path image segments (item s (Key.row i)) ++ (range_at segments (address + 20) (body_size b) ∷ [])
        unfolding item
        item_body_path =
            path_map image segments Answer.body (body_of_slot s i)
            ∙ Hung.body_path image segments s.types s.types_start i r the_row b the_body (offset_or_zero segments address) (offset_or_zero segments (address + 20)) row_placed body_placed
            ∙ ap (λ (l : List Range). l ++ (range_at segments (address + 20) (body_size b) ∷ [])) (sym item_row_path)

        -- ---- blocks

        -- the body's path, the headers of the earlier blocks that are present, and its own if it has one
        pub item_block_path : (k : BlockKind) (x : Block) → run image segments (item s (Key.block i k)) ≡ Some (Answer.block x)
            → path image segments (item s (Key.block i k))
            ≡ path image segments (item s (Key.body i)) ++ headers image segments (trailing r.flags b) (trailing_start r.address b) (suc (row_number k))
        unfolding item
        item_block_path k x is_Block =
            let there : run image segments (block_of_slot s i k) ≡ Some x = un_map image segments Answer.block (block_of_slot s i k) x (λ a e. cc) is_Block in
            let its = Hung.slot_block_lem image segments s.types s.types_start i r the_row b the_body k in
            path_map image segments Answer.block (block_of_slot s i k)
            ∙ Hung.slot_block_path image segments s.types s.types_start i r the_row b the_body k
            ∙ rw (path_map image segments Answer.body (body_of_slot s i), own-headers image segments (trailing r.flags b) (trailing_start r.address b) k x (sym there ∙ its))

      -- ---- contexts

      -- the row's path, and 8 bytes of each context up to it
      pub item_context_path : (k : ℕ) (h : Header) → run image segments (item s (Key.context i k)) ≡ Some (Answer.context h)
          → path image segments (item s (Key.context i k)) ≡ path image segments (item s (Key.row i)) ++ context_ranges segments (chain image segments (suc k) r.parent)
      unfolding item
      item_context_path k h is-context =
          path_map image segments Answer.context (context_of_slot s i k)
          ∙ context_reads image segments s i r the_row k h (un_map image segments Answer.context (context_of_slot s i k) h (λ a e. cc) is-context)
          ∙ ap (λ (l : List Range). l ++ context_ranges segments (chain image segments (suc k) r.parent)) (sym (path_map image segments Answer.row (row_of_slot s i)))

    -- ---- what belongs to a body

    -- an offset list for a metadata address: the body's path, and the vector's bytes
    pub item_offsets_path : (f v m : ℕ) (l : List ℕ) → run image segments (item s (Key.body i)) ≡ Some (Answer.body (of_struct f v))
        → run image segments (item s (Key.offsets i m)) ≡ Some (Answer.offsets l)
        → path image segments (item s (Key.offsets i m)) ≡ path image segments (item s (Key.body i)) ++ (range_at segments (m + 8 * v) (4 * f) ∷ [])
    unfolding item field_offsets
    item_offsets_path f v m l is_IsBody is-offsets =
        let b : run image segments (body_of_slot s i) ≡ Some (of_struct f v) = un_map image segments Answer.body (body_of_slot s i) (of_struct f v) (λ a e. cc) is_IsBody in
        let there : run image segments (offsets_of_slot s i m) ≡ Some l = un_map image segments Answer.offsets (offsets_of_slot s i m) l (λ a e. cc) is-offsets in
        let o = Vector.offsets_body image segments s.types s.types_start i m l there in
        let t : Some (of_struct o.fields o.word) ≡ Some (of_struct f v) = sym o.there ∙ b in
        let ef : o.fields ≡ f = cc in
        let ev : o.word ≡ v = cc in
        let wants : Vector.Wants f v m
        = record {
          count = omega (arith, o.wants.count);
          word = omega (arith, o.wants.word);
          metadata = o.wants.metadata;
          below = omega (arith, o.wants.below);
        } in
        let its : run image segments (bytes (m + 8 * v) (4 * f) (λ h. done (u32s f h))) ≡ Some l
        = rw (Vector.vector_at f v m wants) at (sym (Vector.slot_offsets_lem image segments s.types s.types_start i m (of_struct f v) b) ∙ there) in
        let w = bytes_read_lem image segments (m + 8 * v) l (4 * f) (λ h. done (u32s f h)) its in
        path_map image segments Answer.offsets (offsets_of_slot s i m)
        ∙ Vector.offsets_path image segments s.types s.types_start i m l f v (offset_or_zero segments (m + 8 * v)) b there (placed segments (m + 8 * v) w.offset w.at)
        ∙ ap (λ (p : List Range). p ++ (range_at segments (m + 8 * v) (4 * f) ∷ [])) (sym (path_map image segments Answer.body (body_of_slot s i)))

    -- ---- what belongs to a block

    module _ (k : BlockKind) (x : Block) (is_Block : run image segments (item s (Key.block i k)) ≡ Some (Answer.block x)) where
      the_block : run image segments (block_of_slot s i k) ≡ Some x
      unfolding item
      the_block = un_map image segments Answer.block (block_of_slot s i k) x (λ a e. cc) is_Block

      block_reads : path image segments (item s (Key.block i k)) ≡ path image segments (block_of_slot s i k)
      unfolding item
      block_reads = path_map image segments Answer.block (block_of_slot s i k)

    -- an entry: its block's path, and all entries up to it
    pub item_entry_path : (e : EntryKind) (k : ℕ) (x : Block) (t : Table) (y : Entry) → run image segments (item s (Key.block i (table_kind e))) ≡ Some (Answer.block x)
        → table_of x ≡ Some t → run image segments (item s (Key.entry i e k)) ≡ Some (Answer.entry y)
        → path image segments (item s (Key.entry i e k)) ≡ path image segments (item s (Key.block i (table_kind e))) ++ ranges segments (entry_layout e) t.base k
    unfolding item entry_of_slot
    item_entry_path e k x t y is_Block is-table is-entry =
        let p : Block → Reads Entry = λ b. needing (table_of b) (λ t. entry (entry_layout e) t.base t.count k) in
        let there : run image segments (entry_of_slot s i e k) ≡ Some y = un_map image segments Answer.entry (entry_of_slot s i e k) y (λ a e. cc) is-entry in
        let its : run image segments (entry_of_slot s i e k) ≡ run image segments (entry (entry_layout e) t.base t.count k)
        = run_bind image segments p (block_of_slot s i (table_kind e)) ∙ rw (the_block (table_kind e) x is_Block, is-table) in
        path_map image segments Answer.entry (entry_of_slot s i e k)
        ∙ path_bind image segments p (block_of_slot s i (table_kind e))
        ∙ rw (the_block (table_kind e) x is_Block, is-table, own-entries image segments (entry_layout e) t.base t.count k y (sym its ∙ there))
        (ap (λ (l : List Range). l ++ ranges segments (entry_layout e) t.base k) (sym (block_reads (table_kind e) x is_Block)))

    -- singleton records: their block's path, and the 12 or 4 bytes that they read
    pub item_init_path : (v : ℕ) (y : Initialization) → run image segments (item s (Key.block i BlockKind.SingletonMetadataInit)) ≡ Some (Answer.block (placed_block BlockKind.SingletonMetadataInit v))
        → run image segments (item s (Key.initialization i)) ≡ Some (Answer.initialization y)
        → path image segments (item s (Key.initialization i)) ≡ path image segments (item s (Key.block i BlockKind.SingletonMetadataInit)) ++ (range_at segments v 12 ∷ [])
    unfolding item singleton_init
    item_init_path v y is_Block is-init =
        let b = the_block BlockKind.SingletonMetadataInit (placed_block BlockKind.SingletonMetadataInit v) is_Block in
        let there : run image segments (init_of_slot s i) ≡ Some y = un_map image segments Answer.initialization (init_of_slot s i) y (λ a e. cc) is-init in
        let w = bytes_read_lem image segments v y 12 (targets v) (sym (Hung.slot_init_lem image segments s.types s.types_start i v b) ∙ there) in
        path_map image segments Answer.initialization (init_of_slot s i)
        ∙ Hung.init_path image segments s.types s.types_start i v b y (offset_or_zero segments v) there (placed segments v w.offset w.at)
        ∙ ap (λ (l : List Range). l ++ (range_at segments v 12 ∷ [])) (sym (block_reads BlockKind.SingletonMetadataInit (placed_block BlockKind.SingletonMetadataInit v) is_Block))

    pub item_pointer_path : (v y : ℕ) → run image segments (item s (Key.block i BlockKind.SingletonMetadataPointer)) ≡ Some (Answer.block (placed_block BlockKind.SingletonMetadataPointer v))
        → run image segments (item s (Key.pointer i)) ≡ Some (Answer.pointer y)
        → path image segments (item s (Key.pointer i)) ≡ path image segments (item s (Key.block i BlockKind.SingletonMetadataPointer)) ++ (range_at segments v 4 ∷ [])
    unfolding item singleton_pointer
    item_pointer_path v y is_Block is_pointer =
        let b = the_block BlockKind.SingletonMetadataPointer (placed_block BlockKind.SingletonMetadataPointer v) is_Block in
        let there : run image segments (pointer_of_slot s i) ≡ Some y = un_map image segments Answer.pointer (pointer_of_slot s i) y (λ a e. cc) is_pointer in
        let w = bytes_read_lem image segments v y 4 (λ h. done (relative_address v (signed_in 4 h 0))) (sym (Hung.slot_pointer_lem image segments s.types s.types_start i v b) ∙ there) in
        path_map image segments Answer.pointer (pointer_of_slot s i)
        ∙ Hung.pointer_path image segments s.types s.types_start i v b y (offset_or_zero segments v) there (placed segments v w.offset w.at)
        ∙ ap (λ (l : List Range). l ++ (range_at segments v 4 ∷ [])) (sym (block_reads BlockKind.SingletonMetadataPointer (placed_block BlockKind.SingletonMetadataPointer v) is_Block))

  -- ---- fields

  module _ (s : Sections) (j : ℕ) where
    -- a field descriptor reads no byte of the image
    pub item_descriptor_path : path image segments (item s (Key.field_descriptor j)) ≡ []
    unfolding item
    item_descriptor_path =
        path_map image segments Answer.field_descriptor (descriptor_at s.fields s.fields_start j)
        ∙ no_bytes image segments s.fields s.fields_start j

    -- a field record: the 12 bytes of each record up to it
    pub item_record_path : (k : ℕ) (d : FieldDescriptor) (e : Entry) → run image segments (item s (Key.field_descriptor j)) ≡ Some (Answer.field_descriptor d)
        → run image segments (item s (Key.field_record j k)) ≡ Some (Answer.field_record e)
        → path image segments (item s (Key.field_record j k)) ≡ ranges segments (record_layout d.field_record_size) (records_base d.address) k
    unfolding item
    item_record_path k d e is-descriptor is-record =
        path_map image segments Answer.field_record (descriptor_record s.fields s.fields_start j k)
        ∙ own-records image segments s.fields s.fields_start j k d e
        (un_map image segments Answer.field_descriptor (descriptor_at s.fields s.fields_start j) d (λ a f. cc) is-descriptor)
        (un_map image segments Answer.field_record (descriptor_record s.fields s.fields_start j k) e (λ a f. cc) is-record)
