-- Texts under the cut. The place that the calls return for a text, and its bytes, are those of the text that is looked up at the address of
-- its name (`part-read`, `field-part`, `beside-by`, `beside-read`). So under the premise for a text, and for the name of the row that it
-- belongs to, the cut image gives the whole image's text, or nothing, or, for a field's name, what the string section has (`cut-beside`). A
-- text's path has its item's (`beside-path`), and without the item there is no text (`no-beside`).
use Rattle.std.specs.Prelude.{ℕ, ◌<◌, List, [], ◌++◌, Bool, ◌&&◌, take, Option, Some, None, option_map}
use Rattle.std.proofs.Math.Decide.{dec_lt}
use Rattle.std.proofs.Common.{arith, ◌∙◌, append-nil, eq-eqb, ne_eqb}
use Rattle.std.proofs.Math.Path.{◌≡◌, refl, sym, ap}
use Rattle.std.proofs.Math.Bool.{true, false, cond}
use Rattle.std.proofs.lemmas.Bool.{false≢true}
use Rattle.util.specs.Cstr.{part_of}
use Rattle.util.specs.declared.cstr.Place.{Place}
use Rattle.runtime.specs.Reads.{Reads, done, and_then, text_place, run, Range, bytes_range, also, path, bind, every, Clear, ends_by}
use Rattle.runtime.proofs.ReadsLaws.{run_bind, path_bind, cut}
use Rattle.runtime.proofs.PathLaws.{bytes_clear, path_text_zero}
use Rattle.runtime.proofs.CallsLaws.{run_text, run_no_text}
use Rattle.runtime.specs.FieldName.{NamePlace, in_image, in_strings, section_text, or_else, field_name}
use Rattle.type_body.specs.Body.{Body, of_class, of_struct, of_enum, superclass_name}
use Rattle.field.specs.declared.record.FieldRecord.{FieldRecord}
use Rattle.field.specs.Fields.{descriptor_at}
use Rattle.field.specs.Records.{descriptor_record, of_record}
use Rattle.parent.specs.Context.{Name, Header, name, context_name, with_name}
use Rattle.typedescriptor.specs.Row.{TypeRow}
use Rattle.items.specs.Keys.{Sections, Key, Answer}
use Rattle.items.specs.Items.{map_reads, item, row_of_slot, body_of_slot, context_of_slot}
use Rattle.items.specs.Texts.{NameKey, context_name_at, record_name, record_type_name, superclass_at, name_of, lookup, read_name, ClearAt, ClearOf}
use Rattle.items.specs.Beside.{told_at, Beside, with_part, beside_of, is_field, section_beside, section_of}
use Rattle.items.proofs.ProgramLaws.{run_map, path_map, map_none, bind_none, un_map_none, every_append, beside_row, on_name, on_context_name}
use Rattle.items.proofs.PremiseLaws.{row_named, row_text, header_text, lookup_clear, ClearBy, text_clear, row_clear}

-- ---- what is looked up at an address

-- a text of the image
abbrev name_in : Place → List ℕ → Name
name_in p t = record { place = p; bytes = t }

abbrev pub of_name : Name → Beside
of_name n = record { place = in_image n.place; bytes = n.bytes }

module _ (image segments : List ℕ) where
  -- the place that the calls return for a text, and the bytes that `text_part` returns for it, are those of the text that is looked up
  pub part_read : (strings : List ℕ) (a : ℕ) → with_part image strings (option_map in_image (text_place image segments a)) ≡ option_map of_name (run image segments (lookup a))
  unfolding lookup run
  part_read strings a = go (text_place image segments a) refl
    where
      go : (x : Option Place) → text_place image segments a ≡ x
          → with_part image strings (option_map in_image x) ≡ option_map of_name (run image segments (lookup a))
      go None e = sym (ap (option_map of_name) (run_no_text image segments a (λ p t. done (name_in p t)) (sym e)))
      go (Some p) e = sym (ap (option_map of_name) (run_text image segments a (λ p t. done (name_in p t)) p (sym e)))

  pub place_read : (a : ℕ) → text_place image segments a ≡ option_map (λ (n : Name). n.place) (run image segments (lookup a))
  unfolding lookup run
  place_read a = go (text_place image segments a) refl
    where
      go : (x : Option Place) → text_place image segments a ≡ x → x ≡ option_map (λ (n : Name). n.place) (run image segments (lookup a))
      go None e = sym (ap (option_map (λ (n : Name). n.place)) (run_no_text image segments a (λ p t. done (name_in p t)) (sym e)))
      go (Some p) e = sym (ap (option_map (λ (n : Name). n.place)) (run_text image segments a (λ p t. done (name_in p t)) p (sym e)))

-- ---- what the calls return, in terms of the name's address

module _ (image segments strings : List ℕ) (start : ℕ) where
  -- the image's text at an address, or, for a field's name, the field name at it
  abbrev place_at : Bool → ℕ → Option NamePlace
  place_at b a = cond b (field_name image segments strings start a) (option_map in_image (text_place image segments a))

  by_number : {A : Type 0} (p : Reads A) (f : A → ℕ) (g : ℕ → Option NamePlace)
      → and_then (run image segments p) (λ x. g (f x)) ≡ and_then (run image segments (map_reads f p)) g
  by_number {A} p f g = rw (run_map image segments f p) (go (run image segments p))
    where
      go : (x : Option A) → and_then x (λ y. g (f y)) ≡ and_then (option_map f x) g
      go None = refl
      go (Some y) = refl

  by_text : (p : Reads ℕ) → option_map (λ (n : Name). in_image n.place) (run image segments (bind p lookup)) ≡ and_then (run image segments p) (place_at false)
  by_text p = rw (run_bind image segments lookup p) (go (run image segments p))
    where
      at : (y : Option Name) → option_map (λ (n : Name). in_image n.place) y ≡ option_map in_image (option_map (λ (n : Name). n.place) y)
      at None = refl
      at (Some n) = refl

      go : (x : Option ℕ) → option_map (λ (n : Name). in_image n.place) (and_then x (λ a. run image segments (lookup a))) ≡ and_then x (place_at false)
      go None = refl
      go (Some a) = at (run image segments (lookup a)) ∙ ap (option_map in_image) (sym (place_read image segments a))

  module _ (s : Sections) where
    pub told_by_lem : (n : NameKey) → told_at image segments strings start s n ≡ and_then (run image segments (name_of s n)) (place_at (is_field n))
    unfolding told_at name_of run context_name read_name
    told_by_lem (NameKey.descriptor i) =
        row (run image segments (row_of_slot s i))
        ∙ ap (option_map (λ (n : Name). in_image n.place)) (sym (ap (run image segments) (row_text s i) ∙ run_map image segments row_named (row_of_slot s i)))
        ∙ by_text (name_of s (NameKey.descriptor i))
      where
        row : (x : Option TypeRow) → option_map (λ (r : TypeRow). in_image r.name) x ≡ option_map (λ (n : Name). in_image n.place) (option_map row_named x)
        row None = refl
        row (Some r) = refl
    told_by_lem (NameKey.context i k) = rw (run_bind image segments context_name_at (context_of_slot s i k)) (go (run image segments (context_of_slot s i k)))
      where
        go : (x : Option Header) → and_then x (λ h. option_map (λ (n : Name). in_image n.place) (run image segments (name h.address h.flags)))
            ≡ and_then (and_then x (λ h. run image segments (context_name_at h))) (place_at false)
        go None = refl
        go (Some h) = ap (λ (p : Reads Name). option_map (λ (n : Name). in_image n.place) (run image segments p)) (sym (header_text h)) ∙ by_text (context_name_at h)
    told_by_lem (NameKey.field j k) = by_number (descriptor_record s.fields s.fields_start j k) record_name (place_at true)
    told_by_lem (NameKey.superclass i) = rw (run_bind image segments superclass_at (body_of_slot s i)) (go (run image segments (body_of_slot s i)))
      where
        go : (x : Option Body) → and_then x (λ b. option_map in_image (superclass_name image segments (Some b))) ≡ and_then (and_then x (λ b. run image segments (superclass_at b))) (place_at false)
        go None = refl
        go (Some (of_class a z m f v)) = refl
        go (Some (of_struct f v)) = refl
        go (Some (of_enum p w e)) = refl
    told_by_lem (NameKey.field_type j k) = by_number (descriptor_record s.fields s.fields_start j k) record_type_name (place_at false)
    told_by_lem (NameKey.descriptor_type j) = by_number (descriptor_at s.fields s.fields_start j) (λ d. d.mangled_type_name_va) (place_at false)
    told_by_lem (NameKey.descriptor_superclass j) = by_number (descriptor_at s.fields s.fields_start j) (λ d. d.superclass_va) (place_at false)

    -- what the calls return for a text, in terms of the address of its name
    pub beside_by : (n : NameKey) → beside_of image segments strings start s n ≡ and_then (run image segments (name_of s n)) (λ a. with_part image strings (place_at (is_field n) a))
    unfolding beside_of
    beside_by n = rw (told_by_lem n) (go (run image segments (name_of s n)))
      where
        go : (x : Option ℕ) → with_part image strings (and_then x (place_at (is_field n))) ≡ and_then x (λ a. with_part image strings (place_at (is_field n) a))
        go None = refl
        go (Some a) = refl

    -- so for a text that is not a field's name it is what the program of the name answers
    pub beside_read : (n : NameKey) → is_field n ≡ false → beside_of image segments strings start s n ≡ option_map of_name (run image segments (read_name s n))
    unfolding read_name
    beside_read n e = beside_by n ∙ rw (run_bind image segments lookup (name_of s n)) (go (is_field n) e (run image segments (name_of s n)))
      where
        go : (b : Bool) → b ≡ false → (x : Option ℕ) → and_then x (λ a. with_part image strings (place_at b a)) ≡ option_map of_name (and_then x (λ a. run image segments (lookup a)))
        go true f x = absurd (false≢true (sym f))
        go false f None = refl
        go false f (Some a) = part_read image segments strings a

  -- a field's name: the image's text, else the string section's
  pub field_part : (a : ℕ) → (a ≡ 0 → ⊥)
      → with_part image strings (field_name image segments strings start a) ≡ or_else (option_map of_name (run image segments (lookup a))) (section_beside strings start a)
  unfolding field_name
  field_part a h = simp (ne_eqb a 0 h) (go (text_place image segments a) (section_text strings start a) ∙ ap (λ (x : Option Beside). or_else x (section_beside strings start a)) (part_read image segments strings a))
    where
      go : (x y : Option Place) → with_part image strings (or_else (option_map in_image x) (option_map in_strings y))
          ≡ or_else (with_part image strings (option_map in_image x)) (option_map (λ p. record { place = in_strings p; bytes = part_of strings p }) y)
      go None None = refl
      go None (Some q) = refl
      go (Some p) y = refl

-- ---- the cut

-- the claim: the image's first `c` bytes give the whole image's text if its path, that of its item and its own, ends at or before `c`; if
-- only the path of its address does, they give the string section's for a field's name, else none; and if that is lost, none
abbrev pub TextClaim : List ℕ → List ℕ → List ℕ → ℕ → Sections → ℕ → NameKey → Type 0
TextClaim image segments strings start s c n =
    beside_of (take c image) segments strings start s n
    ≡ cond (every (ends_by c) (path image segments (read_name s n))) (beside_of image segments strings start s n)
    (cond (every (ends_by c) (path image segments (name_of s n))) (section_of image segments strings start s n) None)

map_cond : {A B : Type 0} (f : A → B) (b : Bool) (x : Option A) → option_map f (cond b x None) ≡ cond b (option_map f x) None
map_cond f true x = refl
map_cond f false x = refl

module _ (image segments : List ℕ) (c : ℕ) where
  -- the range of the text at an address lies before the cut, or there is none
  abbrev pub text_ends_by : ℕ → Bool
  text_ends_by a = every (ends_by c) (path image segments (lookup a))

  -- a text at an address: place and bytes
  pub cut_text : (a : ℕ) → ClearAt image segments c a → run (take c image) segments (lookup a) ≡ cond (text_ends_by a) (run image segments (lookup a)) None
  cut_text a clear = cut image segments c (lookup a) (lookup_clear image segments c a clear)

  module _ (strings : List ℕ) (start : ℕ) where
    -- as the calls return it, and a field's name
    cut_part : (b : Bool) (a : ℕ) → ClearAt image segments c a
        → with_part (take c image) strings (place_at (take c image) segments strings start b a)
        ≡ cond (text_ends_by a) (with_part image strings (place_at image segments strings start b a)) (cond b (section_beside strings start a) None)
    unfolding field_name lookup
    cut_part false a clear =
        part_read (take c image) segments strings a ∙ rw (cut_text a clear, map_cond of_name (text_ends_by a) (run image segments (lookup a)), part_read image segments strings a)
    cut_part true a clear = by (dec_lt 0 a)
      where
        choose : (b : Bool) (x : Option Beside) → or_else (cond b x None) (section_beside strings start a) ≡ cond b (or_else x (section_beside strings start a)) (section_beside strings start a)
        choose true x = refl
        choose false x = refl

        by : Dec (0 < a)
            → with_part (take c image) strings (field_name (take c image) segments strings start a)
            ≡ cond (text_ends_by a) (with_part image strings (field_name image segments strings start a)) (section_beside strings start a)
        by (yes h) =
            let z : a ≡ 0 → ⊥ = λ e. omega arith in
            field_part (take c image) segments strings start a z
            ∙ rw (cut_text a clear, map_cond of_name (text_ends_by a) (run image segments (lookup a)), field_part image segments strings start a z)
            (choose (text_ends_by a) (option_map of_name (run image segments (lookup a))))
        by (no h) =
            let z : a ≡ 0 = omega arith in
            simp (eq-eqb a 0 z) (rw (path_text_zero image segments a (λ p t. done (name_in p t)) z))

    module _ (s : Sections) (n : NameKey) where
      module _ (rows : (i : ℕ) → beside_row n ≡ Some i → ClearOf image segments s c (NameKey.descriptor i)) (clear : ClearOf image segments s c n) where
        cut_address : run (take c image) segments (name_of s n) ≡ cond (every (ends_by c) (path image segments (name_of s n))) (run image segments (name_of s n)) None
        cut_address =
            cut image segments c (name_of s n)
            (on_name image segments (Clear c) (λ o n. bytes_clear c (bytes_range o n) refl) s n (λ i e. record { all = row_clear image segments c s i (rows i e) })).all

        pub cut_beside : TextClaim image segments strings start s c n
        unfolding read_name section_of
        cut_beside =
            beside_by (take c image) segments strings start s n
            ∙ rw (cut_address, beside_by image segments strings start s n, path_bind image segments lookup (name_of s n), every_append)
            (go (every (ends_by c) (path image segments (name_of s n))) (run image segments (name_of s n)) refl)
          where
            go : (b : Bool) (x : Option ℕ) → run image segments (name_of s n) ≡ x
                → and_then (cond b x None) (λ a. with_part (take c image) strings (place_at (take c image) segments strings start (is_field n) a))
                ≡ cond (b && every (ends_by c) (also x (λ a. path image segments (lookup a))))
                (and_then x (λ a. with_part image strings (place_at image segments strings start (is_field n) a)))
                (cond b (and_then x (λ a. cond (is_field n) (section_beside strings start a) None)) None)
            go false x e = refl
            go true None e = refl
            go true (Some a) e = cut_part (is_field n) a (clear a e)

-- ---- the item that a text stands beside

-- a row's name is in the row itself
abbrev pub beside_key : NameKey → Option Key
beside_key (NameKey.descriptor i) = None
beside_key (NameKey.context i k) = Some (Key.context i k)
beside_key (NameKey.field j k) = Some (Key.field_record j k)
beside_key (NameKey.superclass i) = Some (Key.body i)
beside_key (NameKey.field_type j k) = Some (Key.field_record j k)
beside_key (NameKey.descriptor_type j) = Some (Key.field_descriptor j)
beside_key (NameKey.descriptor_superclass j) = Some (Key.field_descriptor j)

module _ (image segments : List ℕ) (s : Sections) where
  -- what is read for the address of a context's name besides the context: the four bytes of the offset
  abbrev pub offset_path : NameKey → List Range
  offset_path (NameKey.descriptor i) = []
  offset_path (NameKey.context i k) = also (run image segments (context_of_slot s i k)) (λ h. path image segments (context_name_at h))
  offset_path (NameKey.field j k) = []
  offset_path (NameKey.superclass i) = []
  offset_path (NameKey.field_type j k) = []
  offset_path (NameKey.descriptor_type j) = []
  offset_path (NameKey.descriptor_superclass j) = []

  abbrev Stands : NameKey → Key → Type 0
  Stands n k = path image segments (name_of s n) ≡ path image segments (item s k) ++ offset_path n

  -- for the address of a text its item is read, and for a context's name those four bytes
  beside_item : {A B C : Type 0} (f : A → B) (g : A → C) (p : Reads A) → path image segments (map_reads f p) ≡ path image segments (map_reads g p) ++ []
  beside_item f g p = path_map image segments f p ∙ sym (path_map image segments g p) ∙ sym (append-nil _)

  no_more : (x : Option Body) → also x (λ b. path image segments (superclass_at b)) ≡ []
  unfolding path
  no_more None = refl
  no_more (Some (of_class a z m f v)) = refl
  no_more (Some (of_struct f v)) = refl
  no_more (Some (of_enum p w e)) = refl

  by_key : (n : NameKey) (k j : Key) → Stands n j → Some j ≡ Some k → Stands n k
  by_key n k j h e = let q : j ≡ k = cc in rw q at h

  its : (k j : Key) → Some j ≡ Some k → run image segments (item s k) ≡ None → run image segments (item s j) ≡ None
  its k j e f = let q : j ≡ k = cc in rw q f

  pub beside_path : (n : NameKey) (k : Key) → beside_key n ≡ Some k → Stands n k
  unfolding name_of item
  beside_path (NameKey.descriptor i) k e = let z : ◌≡◌ {A = ℕ} 0 1 = cc in absurd (omega arith)
  beside_path (NameKey.context i j) k e =
      by_key (NameKey.context i j) k (Key.context i j) (path_bind image segments context_name_at (context_of_slot s i j) ∙ rw (path_map image segments Answer.context (context_of_slot s i j))) e
  beside_path (NameKey.field j i) k e = by_key (NameKey.field j i) k (Key.field_record j i) (beside_item record_name Answer.field_record _) e
  beside_path (NameKey.superclass i) k e =
      by_key (NameKey.superclass i) k (Key.body i)
      (path_bind image segments superclass_at (body_of_slot s i) ∙ rw (no_more (run image segments (body_of_slot s i)), path_map image segments Answer.body (body_of_slot s i))) e
  beside_path (NameKey.field_type j i) k e = by_key (NameKey.field_type j i) k (Key.field_record j i) (beside_item record_type_name Answer.field_record _) e
  beside_path (NameKey.descriptor_type j) k e = by_key (NameKey.descriptor_type j) k (Key.field_descriptor j) (beside_item (λ d. d.mangled_type_name_va) Answer.field_descriptor _) e
  beside_path (NameKey.descriptor_superclass j) k e =
      by_key (NameKey.descriptor_superclass j) k (Key.field_descriptor j) (beside_item (λ d. d.superclass_va) Answer.field_descriptor _) e

  -- without its item a text is not looked up
  pub no_item : (n : NameKey) (k : Key) → beside_key n ≡ Some k → run image segments (item s k) ≡ None → run image segments (name_of s n) ≡ None
  unfolding name_of item
  no_item (NameKey.descriptor i) k e f = let z : ◌≡◌ {A = ℕ} 0 1 = cc in absurd (omega arith)
  no_item (NameKey.context i j) k e f = bind_none image segments (context_of_slot s i j) (un_map_none image segments Answer.context (context_of_slot s i j) (its k (Key.context i j) e f)) context_name_at
  no_item (NameKey.field j i) k e f = map_none image segments _ (un_map_none image segments Answer.field_record _ (its k (Key.field_record j i) e f)) record_name
  no_item (NameKey.superclass i) k e f = bind_none image segments (body_of_slot s i) (un_map_none image segments Answer.body (body_of_slot s i) (its k (Key.body i) e f)) superclass_at
  no_item (NameKey.field_type j i) k e f = map_none image segments _ (un_map_none image segments Answer.field_record _ (its k (Key.field_record j i) e f)) record_type_name
  no_item (NameKey.descriptor_type j) k e f = map_none image segments _ (un_map_none image segments Answer.field_descriptor _ (its k (Key.field_descriptor j) e f)) _
  no_item (NameKey.descriptor_superclass j) k e f = map_none image segments _ (un_map_none image segments Answer.field_descriptor _ (its k (Key.field_descriptor j) e f)) _

  -- and not returned
  pub no_beside : (strings : List ℕ) (start : ℕ) (n : NameKey) (k : Key) → beside_key n ≡ Some k → run image segments (item s k) ≡ None
      → beside_of image segments strings start s n ≡ None
  no_beside strings start n k e f = beside_by image segments strings start s n ∙ rw (no_item n k e f)

-- the addresses that a record's call returns
pub record_name_lem : (r : FieldRecord) → record_name (of_record r) ≡ r.field_name_va
record_name_lem r = refl

pub record_type : (r : FieldRecord) → record_type_name (of_record r) ≡ r.mangled_type_name_va
record_type r = refl

-- ---- contexts, as the calls return them

module _ (image segments : List ℕ) (c : ℕ) where
  -- the same header, and the whole image's name or none
  pub cut_context : (h : Header) → ClearBy image segments c (context_name_at h)
      → with_name (take c image) segments h
      ≡ record {
        header = h;
        name = cond (every (ends_by c) (path image segments (name h.address h.flags))) (context_name image segments h.address h.flags) None;
      }
  unfolding with_name context_name
  cut_context h clear = rw (cut image segments c (name h.address h.flags) (rw (header_text h) at (text_clear image segments c (context_name_at h) (on_context_name image segments (Clear c) (λ o n. bytes_clear c (bytes_range o n) refl) h).all clear)))

  -- the premise on the listing's texts has it for each context of a slot
  pub context_clear : (s : Sections) (i k : ℕ) (h : Header) → run image segments (context_of_slot s i k) ≡ Some h
      → ClearOf image segments s c (NameKey.context i k) → ClearBy image segments c (context_name_at h)
  unfolding name_of
  context_clear s i k h e clear v f = clear v (run_bind image segments context_name_at (context_of_slot s i k) ∙ rw e f)
