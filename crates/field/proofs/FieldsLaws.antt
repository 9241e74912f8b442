-- What the calls' tests say about the fields section: when a step stays (`no_header`, `overruns`) and when it moves (`passes`); and what
-- stepping gives: the step after `k` steps gives descriptor `k` (`stepped-descriptor`), and the list of a caller who steps until there is
-- none has those whose programs answer, in order, and no others (`descriptors-listed-all`).
use Rattle.std.specs.Prelude.{◌≡◌, ℕ, zero, suc, ◌+◌, ◌*◌, ◌%◌, ◌^◌, ◌<◌, ◌≤◌, List, [], ◌∷◌, length, ◌≢◌, Option, Some, None, slice_get}
use Rattle.std.proofs.Math.Decide.{dec_lt}
use native.Mathlib.Omega.{arith}
use Rattle.std.proofs.Math.Path.{refl, sym}
use Rattle.std.proofs.Common.{ap, ◌∙◌}
use borrow.Author.Tests.{le-leb, lt-leb, lt-ltb, le-ltb}
use Rattle.util.specs.LittleEndian.{unsigned_in, signed_in}
use Rattle.util.specs.Cstr.{place, part_of}
use Rattle.util.specs.CstrLaws.{part_in}
use Rattle.runtime.specs.Reads.{and_then, run}
use Rattle.util.specs.Pointer.{relative_address}
use Rattle.context.specs.Field.{field_kind}
use Rattle.context.specs.declared.field.FieldDescriptorKind.{FieldDescriptorKind}
use Rattle.field.specs.declared.iter.FieldDescriptor.{FieldDescriptor}
use Rattle.field.specs.Fields.{field_descriptor_of, header_bytes, records_end, header_descriptor, Step, field_step, descriptor_from, given, descriptor_at}

-- ---- a header

module _ (a : ℕ) (h : List ℕ) where
  pub descriptor_of_lem : (name super size count : ℕ) (kind : FieldDescriptorKind) → name ≡ relative_address a (signed_in 4 h 0)
      → super ≡ relative_address (a + 4) (signed_in 4 h 4) → kind ≡ field_kind (unsigned_in 2 h 8) → size ≡ unsigned_in 2 h 10
      → count ≡ unsigned_in 4 h 12
      → record {
        address = a;
        mangled_type_name_va = name;
        superclass_va = super;
        kind = kind;
        field_record_size = size;
        num_fields = count;
      } ≡ field_descriptor_of a h
  descriptor_of_lem name super size count kind en es ek ez ec = cc

  pub not_headed : 2 ^ 64 ≤ a + 4 → None ≡ header_descriptor a h
  not_headed w = simp (le-leb (2 ^ 64) (a + 4) w)

  pub is_headed : a + 4 < 2 ^ 64 → Some (field_descriptor_of a h) ≡ header_descriptor a h
  is_headed w = simp (lt-leb (2 ^ 64) (a + 4) w)

-- ---- a step

module _ (fields : List ℕ) (vmaddr at : ℕ) where
  pub no_header : length fields < at + 16 → record { found = None; next = at } ≡ field_step fields vmaddr at
  unfolding field_step
  no_header l = simp (lt-ltb (length fields) (at + 16) l)

  module _ (fits : at + 16 ≤ length fields) where
    overrun : length fields < records_end fields at → record { found = None; next = at } ≡ field_step fields vmaddr at
    unfolding field_step
    overrun l = simp (le-ltb (length fields) (at + 16) fits, lt-ltb (length fields) (records_end fields at) l)

    past : records_end fields at ≤ length fields
        → record { found = header_descriptor ((vmaddr + at) % 2 ^ 64) (header_bytes fields at); next = records_end fields at } ≡ field_step fields vmaddr at
    unfolding field_step
    past l = simp (le-ltb (length fields) (at + 16) fits, le-ltb (length fields) (records_end fields at) l)

    module _ (h : List ℕ) (part : h ≡ part_of fields (place at 16)) (count size : ℕ) (ec : count ≡ unsigned_in 4 h 12) (ez : size ≡ unsigned_in 2 h 10) where
      is_header : h ≡ header_bytes fields at
      is_header = part ∙ part_in fields at 16 fits

      is_end : at + (16 + count * size) ≡ records_end fields at
      is_end = rw (ec, ez, is_header)

      pub overruns : length fields < at + (16 + count * size) → record { found = None; next = at } ≡ field_step fields vmaddr at
      overruns l = overrun (rw is_end at l)

      pub passes : (x : Option FieldDescriptor) (a : ℕ) → a ≡ (vmaddr + at) % 2 ^ 64 → x ≡ header_descriptor a h → at + (16 + count * size) ≤ length fields
          → record { found = x; next = at + (16 + count * size) } ≡ field_step fields vmaddr at
      passes x a ea ex l =
          let f : x ≡ header_descriptor ((vmaddr + at) % 2 ^ 64) (header_bytes fields at) = ex ∙ rw (ea, is_header) in
          rw (f, is_end) (past (rw is_end at l))

-- ---- stepping

module _ (fields : List ℕ) (vmaddr : ℕ) where
  abbrev found_at : ℕ → Option FieldDescriptor
  found_at at = (field_step fields vmaddr at).found

  abbrev next_of : ℕ → ℕ
  next_of at = (field_step fields vmaddr at).next

  abbrev Within : ℕ → Type 0
  Within at = (at + 16 ≤ next_of at) × (next_of at ≤ length fields)

  -- a descriptor lies in the section, and the walk moves past its header
  moves : (at : ℕ) (d : FieldDescriptor) → found_at at ≡ Some d → Within at
  moves at d e = go (dec_lt (length fields) (at + 16)) (dec_lt (length fields) (records_end fields at))
    where
      stays : record { found = None; next = at } ≡ field_step fields vmaddr at → Within at
      stays f =
          let g : ◌≡◌ {A = Option FieldDescriptor} None (Some d) = ap (λ (s : Step). s.found) f ∙ e in
          let z : ◌≡◌ {A = ℕ} 0 1 = cc in
          absurd (omega arith)

      go : Dec (length fields < at + 16) → Dec (length fields < records_end fields at) → Within at
      go (yes l) _ = stays (no_header fields vmaddr at l)
      go (no l) (yes m) = stays (overrun fields vmaddr at (omega arith) m)
      go (no l) (no m) =
          let f : records_end fields at ≡ next_of at = ap (λ (s : Step). s.next) (past fields vmaddr at (omega arith) (omega arith)) in
          (omega arith, omega arith)

  -- so a section has at most one descriptor for each 16 bytes
  few : (k at : ℕ) → length fields < at + 16 * (k + 1) → descriptor_from fields vmaddr at k ≡ None
  unfolding descriptor_from
  few zero at l = go (found_at at) refl
    where
      go : (x : Option FieldDescriptor) → found_at at ≡ x → x ≡ None
      go None e = refl
      go (Some d) e = let m = moves at d e in absurd (omega arith)
  few (suc k) at l = go (found_at at) refl (few k (next_of at))
    where
      go : (x : Option FieldDescriptor) → found_at at ≡ x → (length fields < next_of at + 16 * (k + 1) → descriptor_from fields vmaddr (next_of at) k ≡ None)
          → and_then x (λ _. descriptor_from fields vmaddr (next_of at) k) ≡ None
      go None e ih = refl
      go (Some d) e ih = let m = moves at d e in ih (omega arith)

  -- the descriptors that at most `n` steps give from an offset on, up to the first step without one
  unfoldable pub listed_descriptors : ℕ → ℕ → List FieldDescriptor
  listed_descriptors zero at = []
  listed_descriptors (suc n) at = elim (found_at at) [ None ↦ [] | Some d ↦ d ∷ listed_descriptors n (next_of at) ]

  listed_at : (n k at : ℕ) → k < n → slice_get (listed_descriptors n at) k ≡ descriptor_from fields vmaddr at k
  unfolding listed_descriptors descriptor_from
  listed_at zero k at l = absurd (omega arith)
  listed_at (suc n) zero at l = go (found_at at)
    where
      go : (x : Option FieldDescriptor) → slice_get {X = FieldDescriptor} (elim x as (λ _. List FieldDescriptor) [ None ↦ [] | Some d ↦ d ∷ listed_descriptors n (next_of at) ]) 0 ≡ x
      go None = refl
      go (Some d) = refl
  listed_at (suc n) (suc k) at l = go (found_at at) (listed_at n k (next_of at) (omega arith))
    where
      go : (x : Option FieldDescriptor) → slice_get (listed_descriptors n (next_of at)) k ≡ descriptor_from fields vmaddr (next_of at) k
          → slice_get {X = FieldDescriptor} (elim x as (λ _. List FieldDescriptor) [ None ↦ [] | Some d ↦ d ∷ listed_descriptors n (next_of at) ]) (suc k)
          ≡ and_then x (λ _. descriptor_from fields vmaddr (next_of at) k)
      go None ih = refl
      go (Some d) ih = ih

  length_listed : (n at : ℕ) → length (listed_descriptors n at) ≤ n
  unfolding listed_descriptors
  length_listed zero at = omega arith
  length_listed (suc n) at = go (found_at at) (length_listed n (next_of at))
    where
      go : (x : Option FieldDescriptor) → length (listed_descriptors n (next_of at)) ≤ n
          → length {A = FieldDescriptor} (elim x as (λ _. List FieldDescriptor) [ None ↦ [] | Some d ↦ d ∷ listed_descriptors n (next_of at) ]) ≤ suc n
      go None ih = omega arith
      go (Some d) ih = omega arith

  past_end : (l : List FieldDescriptor) (k : ℕ) → length l ≤ k → slice_get l k ≡ None
  past_end [] k h = refl
  past_end (d ∷ l) zero h = absurd (omega arith)
  past_end (d ∷ l) (suc k) h = past_end l k (omega arith)

  -- where the walk stands after `k` steps
  unfoldable pub offset_after : ℕ → ℕ → ℕ
  offset_after zero at = at
  offset_after (suc k) at = offset_after k (next_of at)

  after_from : (k at : ℕ) → ((j : ℕ) → j < k → found_at (offset_after j at) ≢ None) → found_at (offset_after k at) ≡ descriptor_from fields vmaddr at k
  unfolding offset_after descriptor_from
  after_from zero at r = refl
  after_from (suc k) at r = after_from k (next_of at) (λ j l. r (suc j) (omega arith)) ∙ go (found_at at) refl
    where
      go : (x : Option FieldDescriptor) → found_at at ≡ x → descriptor_from fields vmaddr (next_of at) k ≡ and_then x (λ _. descriptor_from fields vmaddr (next_of at) k)
      go None e = absurd (r 0 (omega arith) e)
      go (Some d) e = refl

  module _ (image segments : List ℕ) where
    run_given : (x : Option FieldDescriptor) → x ≡ run image segments (given x)
    unfolding run
    run_given None = refl
    run_given (Some d) = refl

    -- the list of a caller who steps until there is no descriptor: its descriptor `k` is what the program of descriptor `k` gives, for every `k`;
    -- as many steps as the section has room for headers are enough
    pub descriptors_listed_all : (n k : ℕ) → length fields < 16 * (n + 1) → slice_get (listed_descriptors n 0) k ≡ run image segments (descriptor_at fields vmaddr k)
    unfolding descriptor_at
    descriptors_listed_all n k h = go (dec_lt k n) ∙ run_given (descriptor_from fields vmaddr 0 k)
      where
        go : Dec (k < n) → slice_get (listed_descriptors n 0) k ≡ descriptor_from fields vmaddr 0 k
        go (yes l) = listed_at n k 0 l
        go (no l) = past_end (listed_descriptors n 0) k (omega (arith, length_listed n 0)) ∙ sym (few k 0 (omega arith))

    -- the step after `k` steps gives what the program of descriptor `k` gives, as long as each earlier step gave one
    pub stepped_descriptor : (k : ℕ) → ((j : ℕ) → j < k → found_at (offset_after j 0) ≢ None)
        → found_at (offset_after k 0) ≡ run image segments (descriptor_at fields vmaddr k)
    unfolding descriptor_at
    stepped_descriptor k r = after_from k 0 r ∙ run_given (descriptor_from fields vmaddr 0 k)
