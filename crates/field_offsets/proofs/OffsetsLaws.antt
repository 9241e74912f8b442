-- Field offsets: what the calls' tests say about the definitions; that the offsets by number are the program's list
-- (`offset-listed`, `static-listed`), and that each exists if the vector does (`offset-there`); and the path of a slot's offsets
-- (`offsets-path`).
use Prim.Native.Nat.{ℕ, zero, suc, ◌+◌, ◌*◌, ◌^◌, ◌≤◌, ◌<◌}
use Rattle.std.proofs.Math.Decide.{dec_lt}
use native.Mathlib.Omega.{arith}
use Rattle.std.proofs.Math.Path.{◌≡◌, refl, sym}
use Rattle.std.proofs.Common.{◌∙◌, ap, inl, inr, take-take, drop-drop}
use mathlib.Core.List.{List, [], ◌∷◌, ◌++◌}
use Rattle.std.specs.Prelude.{◌⊎◌, Bool, ◌&&◌, take, drop, ltb, Option, Some, None, option_map, slice_get}
use Rattle.std.proofs.Math.Bool.{true, false, cond}
use Rattle.std.proofs.Math.ListN.{length}
use borrow.Author.Tests.{ltb-true, lt-ltb, le-ltb, le-leb, lt-leb}
use Rattle.segment.specs.Segments.{segments_of, file_offset}
use Rattle.util.specs.LittleEndian.{little_endian, bytes_at, little_at}
use Rattle.runtime.specs.Reads.{Reads, done, bytes, bind, and_then, bytes_place, run, Range, bytes_range, path}
use Rattle.runtime.proofs.ReadsLaws.{run_bind, path_bind}
use Rattle.runtime.proofs.CallsLaws.{bytes_within}
use Rattle.runtime.proofs.PathLaws.{path_bytes, bytes_read_lem}
use Rattle.classtrailers.specs.Blocks.{block}
use Rattle.classtrailers.specs.declared.block.Block.{Block}
use Rattle.classtrailers.specs.declared.block.BlockBody.{BlockBody}
use Rattle.classtrailers.specs.declared.block.BlockKind.{BlockKind}
use Rattle.type_body.specs.Body.{Body, of_class, of_struct, of_enum, body, slot_body, body_of}
use Rattle.type_body.specs.Singleton.{needing, singleton_pointer}
use Rattle.type_body.specs.Items.{place_of, pointer_of_block, trailers}
use Rattle.type_body.specs.declared.trailers.Start.{Start}
use Rattle.field_offsets.specs.Offsets.{Vector, vector, u32s, field_offsets, slot_offsets, FieldOffsets, offsets, offsets_place, offset_in, metadata_at, blocks_start, static_place, metadata_after}
use Rattle.type_body.proofs.PathLaws.{both_read, blocks_start_lem}
use Rattle.type_body.specs.declared.body.ClassBody.{ClassBody}
use Rattle.type_body.specs.declared.body.EnumBody.{EnumBody}
use Rattle.type_body.specs.declared.body.TypeBody.{TypeBody}

-- ---- an answer's cases

-- what is shown for a case holds for an answer in that case
of_case : {A B : Type 0} (f : A → B) {r k : A} {x : B} → r ≡ k → x ≡ f k → x ≡ f r
of_case f t e = e ∙ ap f (sym t)

module _ (image segments : List ℕ) where
  module _ (m : ℕ) (b k : Option TypeBody) (t : b ≡ k) where
    pub offsets_of_lem : (x : Option FieldOffsets) → x ≡ offsets_place image segments (body_of k) m → x ≡ offsets_place image segments (body_of b) m
    offsets_of_lem x e = of_case (λ (c : Option TypeBody). offsets_place image segments (body_of c) m) t e

    pub no_offsets_of : and_then (body_of k) (λ b. vector b m) ≡ None → None ≡ offsets_place image segments (body_of b) m
    unfolding offsets_place
    no_offsets_of e = offsets_of_lem None (rw e)

  pub no_offsets_beside : (m : ℕ) (b : Option TypeBody) (k : TypeBody) → b ≡ Some k → ((c : ClassBody) × (k ≡ TypeBody.Class c)) ⊎ ((e : EnumBody) × (k ≡ TypeBody.Enum e))
      → None ≡ offsets_place image segments (body_of b) m
  unfolding vector
  no_offsets_beside m b k t (inl e) = no_offsets_of m b _ (t ∙ ap Some e.1) refl
  no_offsets_beside m b k t (inr e) = no_offsets_of m b _ (t ∙ ap Some e.1) refl

  module _ (b k : BlockBody) (t : b ≡ k) where
    pub pointer_of_lem : (x : Option ℕ) → x ≡ run image segments (needing (place_of k) singleton_pointer) → x ≡ run image segments (needing (place_of b) singleton_pointer)
    pointer_of_lem x e = of_case (λ (c : BlockBody). run image segments (needing (place_of c) singleton_pointer)) t e

    pub no_pointer_of : place_of k ≡ None → None ≡ run image segments (needing (place_of b) singleton_pointer)
    unfolding run
    no_pointer_of e = pointer_of_lem None (rw e)

  -- a block of which more is recorded than its place
  pub no_place : (b : BlockBody) → ((a : ℕ) → b ≡ BlockBody.At a → ⊥) → None ≡ run image segments (needing (place_of b) singleton_pointer)
  no_place (BlockBody.At a) n = absurd (n a refl)
  no_place (BlockBody.Table o n a) e = no_pointer_of (BlockBody.Table o n a) _ refl refl
  no_place (BlockBody.Set s n) e = no_pointer_of (BlockBody.Set s n) _ refl refl

pub offset_of_lem : (image : List ℕ) (n : ℕ) (o k : Option FieldOffsets) (x : Option ℕ) → o ≡ k → x ≡ and_then k (λ v. offset_in image v n)
    → x ≡ and_then o (λ v. offset_in image v n)
offset_of_lem image n o k x t e = of_case (λ (c : Option FieldOffsets). and_then c (λ v. offset_in image v n)) t e

-- ---- the vector

module _ (f v m : ℕ) where
  -- what a vector requires
  pub record Wants : Type 0 where
    pub count : 0 < f
    pub word : 0 < v
    pub metadata : 0 < m
    pub below : m + 8 * v < 2 ^ 64

  pub vector_at : Wants → vector (of_struct f v) m ≡ Some (record { address = m + 8 * v; count = f })
  unfolding vector
  vector_at w = simp (lt-ltb 0 f w.count, lt-ltb 0 v w.word, lt-ltb 0 m w.metadata, lt-ltb (m + 8 * v) (2 ^ 64) w.below)

  pub vector_none : (Wants → ⊥) → vector (of_struct f v) m ≡ None
  unfolding vector
  vector_none n = go _ (ltb 0 f) (ltb 0 v) (ltb 0 m) (ltb (m + 8 * v) (2 ^ 64)) (ltb-true 0 f) (ltb-true 0 v) (ltb-true 0 m) (ltb-true (m + 8 * v) (2 ^ 64))
    where
      go : (x : Vector) (a b c d : Bool) → (a ≡ true → 0 < f) → (b ≡ true → 0 < v) → (c ≡ true → 0 < m) → (d ≡ true → m + 8 * v < 2 ^ 64)
          → cond (a && b && c && d) (Some x) None ≡ None
      go x true true true true p q r s = absurd (n (record { count = p refl; word = q refl; metadata = r refl; below = s refl }))
      go x true true true false p q r s = refl
      go x true true false d p q r s = refl
      go x true false c d p q r s = refl
      go x false b c d p q r s = refl

  module _ (image segments : List ℕ) where
    pub no_offsets : (Wants → ⊥) → None ≡ offsets_place image segments (Some (of_struct f v)) m
    unfolding offsets_place
    no_offsets n = rw (vector_none n)

    pub offsets_at : Wants → (x : Option ℕ) → x ≡ bytes_place image segments (m + 8 * v) (4 * f)
        → option_map (λ p. offsets p f) x ≡ offsets_place image segments (Some (of_struct f v)) m
    unfolding offsets_place
    offsets_at w x e = rw (vector_at w, e)

    -- the same with another name for the vector's address
    pub offsets_placed : Wants → (a : ℕ) (x : Option ℕ) → a ≡ m + 8 * v → x ≡ bytes_place image segments a (4 * f)
        → option_map (λ p. offsets p f) x ≡ offsets_place image segments (Some (of_struct f v)) m
    offsets_placed w a x q e = offsets_at w x (rw q at e)

-- ---- one offset

module _ (image : List ℕ) (p n k : ℕ) where
  pub no_number : n ≤ k → None ≡ offset_in image (offsets p n) k
  unfolding offset_in
  no_number h = simp (le-ltb k n h)

  pub not_whole : k < n → length image < p + 4 * n → None ≡ offset_in image (offsets p n) k
  unfolding offset_in
  not_whole h l = simp (lt-ltb k n h, lt-leb (p + 4 * n) (length image) l)

  pub no_offset : (k < n → p + 4 * n ≤ length image → ⊥) → None ≡ offset_in image (offsets p n) k
  no_offset h =
      elim (dec_lt k n) [
        | no l ↦ no_number (omega arith)
        | yes l ↦ elim (dec_lt (length image) (p + 4 * n)) [ yes m ↦ not_whole l m | no m ↦ absurd (h l (omega arith)) ]
      ]

  pub number_at : k < n → p + 4 * n ≤ length image → (x : Option ℕ) → x ≡ little_at 4 image (p + 4 * k) → x ≡ offset_in image (offsets p n) k
  unfolding offset_in
  number_at h l x e = simp (lt-ltb k n h, le-leb (p + 4 * n) (length image) l) e

-- ---- the metadata of a descriptor

module _ (image segments : List ℕ) (s : Start) where
  its_metadata : run image segments (metadata_at s)
      ≡ and_then (run image segments (block s.trailing s.start BlockKind.SingletonMetadataPointer)) (λ b. run image segments (pointer_of_block b))
  unfolding metadata_at
  its_metadata = run_bind image segments pointer_of_block (block s.trailing s.start BlockKind.SingletonMetadataPointer)

  module _ (t : Option Start) (es : Some s ≡ t) where
    pub no_block : None ≡ run image segments (block s.trailing s.start BlockKind.SingletonMetadataPointer) → None ≡ metadata_after image segments t
    no_block e = rw (← es, its_metadata, ← e)

    pub by_block : (b : Block) (x : Option ℕ) → Some b ≡ run image segments (block s.trailing s.start BlockKind.SingletonMetadataPointer)
        → x ≡ run image segments (pointer_of_block b) → x ≡ metadata_after image segments t
    by_block b x e ex = ex ∙ rw (← es, its_metadata, ← e)

pub static_at : (image segments : List ℕ) (a flags : ℕ) (o : Option Body) (p : Option ℕ) (x : Option FieldOffsets) → o ≡ run image segments (body a flags)
    → p ≡ metadata_after image segments (trailers a flags o) → x ≡ and_then p (offsets_place image segments o) → x ≡ static_place image segments a flags
unfolding static_place
static_at image segments a flags None p x eo ep ex = ex ∙ rw (← eo, ep)
static_at image segments a flags (Some b) p x eo ep ex =
    let q : p ≡ run image segments (metadata_at (blocks_start a flags b)) = ep ∙ rw (blocks_start_lem image segments a b flags (sym eo)) in
    ex ∙ rw (← eo, ← q)

-- ---- the program's list

-- the offsets from a descriptor's own singleton pointer, as a program
unfoldable pub static_offsets : ℕ → ℕ → Reads (List ℕ)
static_offsets a flags = bind (body a flags) (λ b. bind (metadata_at (blocks_start a flags b)) (field_offsets b))

-- the numbers of a vector in the image
abbrev pub offset_list : List ℕ → FieldOffsets → List ℕ
offset_list image v = u32s v.count (take (4 * v.count) (drop v.place image))

u32s_nth : (n k : ℕ) (h : List ℕ) → k < n → slice_get (u32s n h) k ≡ Some (little_endian (take 4 (drop (4 * k) h)))
unfolding u32s
u32s_nth zero k h l = absurd (omega arith)
u32s_nth (suc n) zero h l = refl
u32s_nth (suc n) (suc k) h l =
    let e : 4 * suc k ≡ 4 + 4 * k = omega arith in
    u32s_nth n k (drop 4 h) (omega arith) ∙ rw (e, drop-drop)

u32s_past : (n k : ℕ) (h : List ℕ) → n ≤ k → slice_get (u32s n h) k ≡ None
unfolding u32s
u32s_past zero k h l = refl
u32s_past (suc n) zero h l = absurd (omega arith)
u32s_past (suc n) (suc k) h l = u32s_past n k (drop 4 h) (omega arith)

-- bytes of a part
part_bytes : (m f c : ℕ) (s : List ℕ) → f + m ≤ c → take m (drop f (take c s)) ≡ take m (drop f s)
part_bytes m zero c s h = take-take m c s (omega arith)
part_bytes m (suc f) zero s h = absurd (omega arith)
part_bytes m (suc f) (suc c) [] h = refl
part_bytes m (suc f) (suc c) (x ∷ s) h = part_bytes m f c s (omega arith)

module _ (image : List ℕ) (v : FieldOffsets) (whole : v.place + 4 * v.count ≤ length image) (k : ℕ) where
  -- there is an offset for every field
  pub offset_there : k < v.count → offset_in image v k ≡ Some (little_endian (take 4 (drop (v.place + 4 * k) image)))
  unfolding little_at bytes_at
  offset_there h =
      sym (number_at image v.place v.count k h whole _ refl)
      ∙ simp (le-leb (v.place + 4 * k + 4) (length image) (omega arith))

  -- and the offset `k` is the number `k` of the list
  pub offset_nth : slice_get (offset_list image v) k ≡ offset_in image v k
  offset_nth = go (dec_lt k v.count)
    where
      go : Dec (k < v.count) → slice_get (offset_list image v) k ≡ offset_in image v k
      go (yes h) =
          u32s_nth v.count k (take (4 * v.count) (drop v.place image)) h
          ∙ rw (part_bytes 4 (4 * k) (4 * v.count) (drop v.place image) (omega arith), drop-drop)
          (sym (offset_there h))
      go (no h) = u32s_past v.count k _ (omega arith) ∙ no_number image v.place v.count k (omega arith)

module _ (image segments : List ℕ) where
  -- a vector that was found lies in the image
  pub offsets_within : (o : Option Body) (m : ℕ) (v : FieldOffsets) → offsets_place image segments o m ≡ Some v → v.place + 4 * v.count ≤ length image
  unfolding offsets_place
  offsets_within o m v e = go (and_then o (λ b. vector b m)) e
    where
      at : (w : Vector) (x : Option ℕ) → bytes_place image segments w.address (4 * w.count) ≡ x
          → option_map (λ p. offsets p w.count) x ≡ Some v → v.place + 4 * v.count ≤ length image
      at w None t f = let z : ◌≡◌ {A = ℕ} 0 1 = cc in absurd (omega arith)
      at w (Some p) t f =
          let q : v ≡ offsets p w.count = cc in
          rw q (bytes_within image segments w.address (4 * w.count) p (sym t))

      go : (x : Option Vector) → and_then x (λ w. option_map (λ p. offsets p w.count) (bytes_place image segments w.address (4 * w.count))) ≡ Some v
          → v.place + 4 * v.count ≤ length image
      go None f = let z : ◌≡◌ {A = ℕ} 0 1 = cc in absurd (omega arith)
      go (Some w) f = at w (bytes_place image segments w.address (4 * w.count)) refl f

  -- the program's list is that of the place
  pub offsets_run : (b : Body) (m : ℕ) → run image segments (field_offsets b m) ≡ option_map (offset_list image) (offsets_place image segments (Some b) m)
  unfolding field_offsets offsets_place run
  offsets_run b m = go (vector b m)
    where
      at : (w : Vector) (x : Option ℕ) → and_then x (λ o. Some (u32s w.count (take (4 * w.count) (drop o image))))
          ≡ option_map (offset_list image) (option_map (λ p. offsets p w.count) x)
      at w None = refl
      at w (Some p) = refl

      go : (x : Option Vector) → run image segments (needing x (λ v. bytes v.address (4 * v.count) (λ h. done (u32s v.count h))))
          ≡ option_map (offset_list image) (and_then x (λ w. option_map (λ p. offsets p w.count) (bytes_place image segments w.address (4 * w.count))))
      go None = refl
      go (Some w) = at w (bytes_place image segments w.address (4 * w.count))

  pub static_run : (a flags : ℕ) → run image segments (static_offsets a flags) ≡ option_map (offset_list image) (static_place image segments a flags)
  unfolding static_offsets static_place
  static_run a flags = run_bind image segments _ (body a flags) ∙ go (run image segments (body a flags))
    where
      at : (b : Body) (x : Option ℕ) → and_then x (λ m. run image segments (field_offsets b m)) ≡ option_map (offset_list image) (and_then x (offsets_place image segments (Some b)))
      at b None = refl
      at b (Some m) = offsets_run b m

      go : (x : Option Body) → and_then x (λ b. run image segments (bind (metadata_at (blocks_start a flags b)) (field_offsets b)))
          ≡ option_map (offset_list image) (and_then x (λ b. and_then (run image segments (metadata_at (blocks_start a flags b))) (offsets_place image segments (Some b))))
      go None = refl
      go (Some b) = run_bind image segments (field_offsets b) (metadata_at (blocks_start a flags b)) ∙ at b (run image segments (metadata_at (blocks_start a flags b)))

  -- what `static_field_offsets` finds lies in the image too
  pub static_within : (a flags : ℕ) (v : FieldOffsets) → static_place image segments a flags ≡ Some v → v.place + 4 * v.count ≤ length image
  unfolding static_place
  static_within a flags v e = go (run image segments (body a flags)) e
    where
      at : (b : Body) (x : Option ℕ) → and_then x (offsets_place image segments (Some b)) ≡ Some v → v.place + 4 * v.count ≤ length image
      at b None f = let z : ◌≡◌ {A = ℕ} 0 1 = cc in absurd (omega arith)
      at b (Some m) f = offsets_within (Some b) m v f

      go : (x : Option Body) → and_then x (λ b. and_then (run image segments (metadata_at (blocks_start a flags b))) (offsets_place image segments (Some b))) ≡ Some v
          → v.place + 4 * v.count ≤ length image
      go None f = let z : ◌≡◌ {A = ℕ} 0 1 = cc in absurd (omega arith)
      go (Some b) f = at b (run image segments (metadata_at (blocks_start a flags b))) f

  -- what `field_offset` answers for what was found is the number in the program's list
  listed : (k : ℕ) (x : Option (List ℕ)) (y : Option FieldOffsets) → x ≡ option_map (offset_list image) y
      → ((v : FieldOffsets) → y ≡ Some v → v.place + 4 * v.count ≤ length image) → and_then x (λ l. slice_get l k) ≡ and_then y (λ v. offset_in image v k)
  listed k x None e w = rw e
  listed k x (Some v) e w = rw e (offset_nth image v (w v refl) k)

  pub offset_listed : (b : Body) (m k : ℕ)
      → and_then (run image segments (field_offsets b m)) (λ l. slice_get l k) ≡ and_then (offsets_place image segments (Some b) m) (λ v. offset_in image v k)
  offset_listed b m k = listed k _ _ (offsets_run b m) (offsets_within (Some b) m)

  pub static_listed : (a flags k : ℕ)
      → and_then (run image segments (static_offsets a flags)) (λ l. slice_get l k) ≡ and_then (static_place image segments a flags) (λ v. offset_in image v k)
  static_listed a flags k = listed k _ _ (static_run a flags) (static_within a flags)

-- ---- the path

-- offsets that exist: the body is a struct's, and its vector is below 2^64
pub record OffsetsRead (image segments : List ℕ) (p : Reads Body) (m : ℕ) : Type 0 where
  pub fields : ℕ
  pub word : ℕ
  pub there : run image segments p ≡ Some (of_struct fields word)
  pub wants : Wants fields word m

module _ (image segments types : List ℕ) (start i m : ℕ) where
  pub no_body_no_offsets : run image segments (slot_body types start i) ≡ None → run image segments (slot_offsets types start i m) ≡ None
  unfolding slot_offsets
  no_body_no_offsets e = run_bind image segments (λ b. field_offsets b m) (slot_body types start i) ∙ rw e

  pub slot_offsets_lem : (b : Body) → run image segments (slot_body types start i) ≡ Some b
      → run image segments (slot_offsets types start i m) ≡ run image segments (field_offsets b m)
  unfolding slot_offsets
  slot_offsets_lem b e = run_bind image segments (λ b. field_offsets b m) (slot_body types start i) ∙ rw e

  module _ (l : List ℕ) where
    wanted : (f v : ℕ) → run image segments (field_offsets (of_struct f v) m) ≡ Some l → Wants f v m
    unfolding field_offsets run
    wanted f v e = go (dec_lt 0 f) (dec_lt 0 v) (dec_lt 0 m) (dec_lt (m + 8 * v) (2 ^ 64))
      where
        never : (Wants f v m → ⊥) → Wants f v m
        never n =
            let g : ◌≡◌ {A = Option (List ℕ)} None (Some l) = simp (vector_none f v m n) at e in
            let z : ◌≡◌ {A = ℕ} 0 1 = cc in
            absurd (omega arith)

        go : Dec (0 < f) → Dec (0 < v) → Dec (0 < m) → Dec (m + 8 * v < 2 ^ 64) → Wants f v m
        go (yes a) (yes b) (yes c) (yes d) = record { count = a; word = b; metadata = c; below = d }
        go (yes a) (yes b) (yes c) (no d) = never (λ w. d w.below)
        go (yes a) (yes b) (no c) d = never (λ w. c w.metadata)
        go (yes a) (no b) c d = never (λ w. b w.word)
        go (no a) b c d = never (λ w. a w.count)

    -- a slot with offsets has such a body
    pub offsets_body : run image segments (slot_offsets types start i m) ≡ Some l → OffsetsRead image segments (slot_body types start i) m
    unfolding slot_offsets field_offsets vector run
    offsets_body e =
        let w = both_read image segments (slot_body types start i) (λ b. field_offsets b m) l e in
        go w.first w.there w.goes
      where
        never : ◌≡◌ {A = Option (List ℕ)} None (Some l) → ⊥
        never f = let z : ◌≡◌ {A = ℕ} 0 1 = cc in omega arith

        go : (b : Body) → run image segments (slot_body types start i) ≡ Some b → run image segments (field_offsets b m) ≡ Some l
            → OffsetsRead image segments (slot_body types start i) m
        go (of_class s z n f v) t g = absurd (never g)
        go (of_struct f v) t g = record { fields = f; word = v; there = t; wants = wanted f v g }
        go (of_enum p w e) t g = absurd (never g)

    -- the body's path, and the vector's bytes
    pub offsets_path : (f v q : ℕ) → run image segments (slot_body types start i) ≡ Some (of_struct f v) → run image segments (slot_offsets types start i m) ≡ Some l
        → file_offset (segments_of segments) (m + 8 * v) ≡ Some q
        → path image segments (slot_offsets types start i m) ≡ path image segments (slot_body types start i) ++ (bytes_range q (4 * f) ∷ [])
    unfolding slot_offsets field_offsets path
    offsets_path f v q e el at =
        let r = sym (slot_offsets_lem (of_struct f v) e) ∙ el in
        let vs = vector_at f v m (wanted f v r) in
        let k : List ℕ → Reads (List ℕ) = λ h. done (u32s f h) in
        let g : run image segments (bytes (m + 8 * v) (4 * f) k) ≡ Some l = rw vs at r in
        let w = bytes_read_lem image segments (m + 8 * v) l (4 * f) k g in
        let h : Some w.offset ≡ Some q = sym w.at ∙ at in
        let s : w.offset ≡ q = cc in
        path_bind image segments (λ b. field_offsets b m) (slot_body types start i)
        ∙ rw (e, vs)
        (ap (λ (p : List Range). path image segments (slot_body types start i) ++ p) (path_bytes image segments (m + 8 * v) (4 * f) k q at (rw s at w.inside)))
