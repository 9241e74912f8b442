-- A small image worked through: the premise for the names of descriptors, contexts and field records does not cover other texts. The image
-- has 51 bytes, a class `A` whose superclass is `Su`: the cut to 49 is clear of every such name, the body is present, and the name of its
-- superclass is returned as `S`.
use Rattle.std.specs.Prelude.{ℕ, zero, suc, ◌≤◌, ◌<◌, ◌≡◌, refl, List, [], ◌∷◌, ◌++◌, Bool, true, false, cond, take, ltb, Option, Some, None}
use Rattle.std.proofs.Common.{arith, inl, inr, ⊎_elim}
use Rattle.utf8.specs.Table.{table}
use Rattle.utf8.specs.Text.{following, goes_on, until_nul, text_length}
use Rattle.util.specs.Letters.{letters}
use Rattle.util.specs.LittleEndian.{little_endian, bytes_at, little_at, twos_complement, signed_at, unsigned_in, signed_in}
use Rattle.util.specs.Pointer.{relative_pointer, relative_address}
use Rattle.util.specs.Cstr.{place, text_at, part_of}
use Rattle.segment.specs.Segments.{segments_of, file_offset, decides, in_file}
use Rattle.runtime.specs.Reads.{nothing, within, bytes_place, text_offset, text_place, run, extent, path, bind}
use Rattle.runtime.specs.FieldName.{in_image}
use Rattle.context.specs.Context.{kind_of}
use Rattle.typedescriptor.specs.Row.{row_name, descriptor}
use Rattle.typedescriptor.specs.Slots.{slot_row}
use Rattle.type_body.specs.Body.{of_class, fixed, class_body, body_bytes, body, slot_body}
use Rattle.field.specs.Fields.{field_step, descriptor_from, descriptor_at}
use Rattle.parent.specs.Context.{header_in, header}
use Rattle.parent.specs.Chain.{contexts_most, header_at}
use Rattle.items.specs.Keys.{Sections, Key, Answer}
use Rattle.items.specs.Items.{map_reads, row_of_slot, context_of_slot, item}
use Rattle.items.specs.Texts.{NameKey, descriptor_name, slot_name_address, name_of, ClearOf}
use Rattle.items.specs.Beside.{told_at, Beside, beside_of}
use Rattle.items.proofs.ClearLaws.{nowhere, there, asked}
use Rattle.items.proofs.PremiseLaws.{no_slot_name}
use Rattle.items.proofs.TextsLaws.{no_item}
use Rattle.items.proofs.ListedLaws.{no_slot, no_row, no_record}
use Rattle.items.proofs.Worked.{small_u32, laid, one_slot, told_by}

-- each line from the offset that it names
abbrev pub elder_image : List ℕ
elder_image =
    -- 0: `A` and a NUL, and two bytes that nothing reads
    65 ∷ 0 ∷ 0 ∷ 0
    -- 4: the descriptor: a class; no parent; the name's offset -12 at 12
    ∷ (small_u32 16 ++ (small_u32 0 ++ (0xf4 ∷ 0xff ∷ 0xff ∷ 0xff ∷ (small_u32 0 ++ (small_u32 0
    -- 24: the body: the offset 24 of the superclass's name
    ++ (small_u32 24 ++ (small_u32 0 ++ (small_u32 0 ++ (small_u32 0 ++ (small_u32 0 ++ (small_u32 0
    -- 48: `Su` and a NUL
    ++ (letters "Su" ++ 0 ∷ []))))))))))))

abbrev pub elder_segments : List ℕ
elder_segments = laid 51

abbrev pub elder_sections : Sections
elder_sections = one_slot 4

-- the superclass's name, with no string section
abbrev superclass : List ℕ → Option Beside
superclass i = beside_of i elder_segments [] 0 elder_sections (NameKey.superclass 0)

-- these bytes at offset 48
abbrev named : List ℕ → ℕ → Option Beside
named t n = Some (record { place = in_image (place 48 n); bytes = t })

pub record ElderWorked : Type 0 where
  pub whole_body : told_by elder_image elder_segments elder_sections (Key.body 0) ≡ Some (Answer.body (of_class 0x1030 (fixed 0 0) 0 0 0))
  pub whole_name : superclass elder_image ≡ named (letters "Su") 2
  -- the cut to 49 does not fall into the name of a descriptor, a context or a field record
  pub descriptors : (i : ℕ) → ClearOf elder_image elder_segments elder_sections 49 (NameKey.descriptor i)
  pub contexts : (i k : ℕ) → ClearOf elder_image elder_segments elder_sections 49 (NameKey.context i k)
  pub fields : (j k : ℕ) → ClearOf elder_image elder_segments elder_sections 49 (NameKey.field j k)
  -- the body is present, and so is a piece of the superclass's name, which the whole image does not have
  pub cut_body : told_by (take 49 elder_image) elder_segments elder_sections (Key.body 0) ≡ told_by elder_image elder_segments elder_sections (Key.body 0)
  pub cut_name : superclass (take 49 elder_image) ≡ named (83 ∷ []) 1
  -- the premise for the name itself leaves out the cuts from 48 to 50, and no others
  pub below : (c : ℕ) → c < 48 → ClearOf elder_image elder_segments elder_sections c (NameKey.superclass 0)
  pub above : (c : ℕ) → 51 ≤ c → ClearOf elder_image elder_segments elder_sections c (NameKey.superclass 0)
  pub not_clear : (c : ℕ) → 48 ≤ c → c < 51 → ClearOf elder_image elder_segments elder_sections c (NameKey.superclass 0) → ⊥

-- one slot
no_slots : (i : ℕ) → run elder_image elder_segments (item elder_sections (Key.row (suc i))) ≡ None
no_slots i = no_slot elder_image elder_segments elder_sections (suc i) (omega arith)

no_contexts : (i k : ℕ) → run elder_image elder_segments (item elder_sections (Key.context i k)) ≡ None
unfolding run bind bytes_place within text_offset segments_of file_offset decides in_file table following goes_on text_at text_length until_nul unsigned_in signed_in little_at signed_at bytes_at little_endian twos_complement relative_address relative_pointer descriptor row_name slot_row map_reads item header header_in header_at context_of_slot
no_contexts (suc i) k = no_row elder_image elder_segments elder_sections (Key.context (suc i) k) (suc i) refl (no_slots i)
no_contexts zero zero = refl
no_contexts zero (suc k) = go (ltb (suc k) contexts_most)
  where
    go : (b : Bool) → run elder_image elder_segments (map_reads Answer.context (cond b (bind (row_of_slot elder_sections 0) (λ r. header_at (suc k) r.parent)) nothing)) ≡ None
    go true = refl
    go false = refl

no_fields : (j : ℕ) → run elder_image elder_segments (item elder_sections (Key.field_descriptor j)) ≡ None
unfolding run bind map_reads item field_step descriptor_from descriptor_at
no_fields zero = refl
no_fields (suc j) = refl

pub elder_worked : ElderWorked
unfolding run path bind bytes_place within text_offset text_place extent segments_of file_offset decides in_file table following goes_on text_at part_of text_length until_nul unsigned_in signed_in little_at signed_at bytes_at little_endian twos_complement relative_address relative_pointer descriptor row_name slot_row descriptor_name slot_name_address name_of map_reads item class_body body_bytes body slot_body kind_of told_at beside_of
elder_worked =
    record {
      whole_body = refl;
      whole_name = refl;
      descriptors = descriptor_clear;
      contexts = λ i k. nowhere elder_image elder_segments elder_sections 49 (NameKey.context i k) (no_item elder_image elder_segments elder_sections (NameKey.context i k) (Key.context i k) refl (no_contexts i k));
      fields = λ j k. nowhere elder_image elder_segments elder_sections 49 (NameKey.field j k) (no_item elder_image elder_segments elder_sections (NameKey.field j k) (Key.field_record j k) refl (no_record elder_image elder_segments elder_sections j k (no_fields j)));
      cut_body = refl;
      cut_name = refl;
      below = λ c h. there elder_image elder_segments elder_sections c (NameKey.superclass 0) 0x1030 48 refl refl (inl h);
      above = λ c h. there elder_image elder_segments elder_sections c (NameKey.superclass 0) 0x1030 48 refl refl (inr h);
      not_clear = λ c h g w. ⊎_elim (λ l. omega arith) (λ l. omega arith) (asked elder_image elder_segments elder_sections c (NameKey.superclass 0) 0x1030 48 refl refl w);
    }
  where
    descriptor_clear : (i : ℕ) → ClearOf elder_image elder_segments elder_sections 49 (NameKey.descriptor i)
    descriptor_clear zero = there elder_image elder_segments elder_sections 49 (NameKey.descriptor 0) 0x1000 0 refl refl (inr (omega arith))
    descriptor_clear (suc i) = no_slot_name elder_image elder_segments 49 elder_sections (suc i) (omega arith)
