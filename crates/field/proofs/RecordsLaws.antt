-- Records are entries, and the laws of their steps are those of entries (crate `vtable`): the step after `k` steps gives what the program
-- of record `k` gives, as long as no earlier record is unreadable (`stepped-record`); and the list of a caller who steps up to an
-- unreadable record or the end has the records whose programs answer, in order, and no others (`records-listed-all`).
use Rattle.std.specs.Prelude.{◌≡◌, ℕ, zero, suc, ◌+◌, ◌^◌, ◌<◌, ◌≤◌, List, [], ◌∷◌, Option, Some, None, option_map, slice_get}
use Rattle.std.proofs.Math.Path.{refl, ap}
use Rattle.std.proofs.Common.{sym, ◌∙◌}
use Rattle.segment.specs.Mapping.{with_mapping, TrueMapping}
use Rattle.segment.specs.declared.segment.Mapping.{Mapping}
use borrow.Author.Tests.{le-leb, lt-leb}
use Rattle.runtime.specs.Reads.{run}
use Rattle.runtime.proofs.ReadsLaws.{run_bind}
use Rattle.vtable.specs.declared.iter.EntryIter.{EntryIter}
use Rattle.vtable.specs.Entries.{Entry, entry_at, start, moved, Step, entry_step}
use Rattle.vtable.proofs.EntriesLaws.{step_end, step_gives, step_mapped}
use Rattle.vtable.specs.Listed.{listed_entries as entriesListed}
use Rattle.vtable.proofs.ListLaws.{iter_at, Readable, stepped_entry, step_after as entriesAfter, entries_listed_all as entries-all}
use Rattle.field.specs.declared.iter.FieldDescriptor.{FieldDescriptor}
use Rattle.field.specs.declared.record.FieldRecordIter.{FieldRecordIter}
use Rattle.field.specs.Fields.{descriptor_at}
use Rattle.field.specs.Records.{record_layout, field_record, records_base, records_of, descriptor_record, entries_of, records_from, RecordStep, sized, record_step}

pub base_wraps : (a : ℕ) → 2 ^ 64 ≤ a + 16 → 0 ≡ records_base a
base_wraps a w = simp (le-leb (2 ^ 64) (a + 16) w)

pub base_below : (a : ℕ) → a + 16 < 2 ^ 64 → a + 16 ≡ records_base a
base_below a w = simp (lt-leb (2 ^ 64) (a + 16) w)

pub records_of_lem : (d : FieldDescriptor) (b : ℕ) → b ≡ records_base d.address
    → record { base_va = b; count = d.num_fields; entry_size = d.field_record_size; cursor = 0 } ≡ records_of d
records_of_lem d b e = rw e

-- ---- a step

module _ (image segments : List ℕ) (c : FieldRecordIter) where
  pub record_end : c.count ≤ c.cursor → None ≡ record_step image segments c
  record_end l = ap (option_map (sized c.entry_size)) (step_end image segments (record_layout c.entry_size) (entries_of c) l)

  pub record_gives : (x : Option Entry) → x ≡ run image segments (entry_at (record_layout c.entry_size) c.base_va c.cursor)
      → c.cursor < c.count
      → Some (record { found = x; next = records_from c.entry_size (moved (entries_of c)) }) ≡ record_step image segments c
  record_gives x e l = ap (option_map (sized c.entry_size)) (step_gives image segments (record_layout c.entry_size) (entries_of c) x e l)

  -- a true mapping changes no step
  pub record_mapped : (m : Mapping) → TrueMapping segments m → record_step image (with_mapping m segments) c ≡ record_step image segments c
  record_mapped m w = ap (option_map (sized c.entry_size)) (step_mapped image segments (record_layout c.entry_size) (entries_of c) m w)

-- ---- stepping

module _ (image segments : List ℕ) where
  -- what the step after `n` steps gives; a step moves on past an unreadable record
  unfoldable pub record_step_after : ℕ → FieldRecordIter → Option RecordStep
  record_step_after zero c = record_step image segments c
  record_step_after (suc n) c = elim (record_step image segments c) [ None ↦ None | Some s ↦ record_step_after n s.next ]

  -- the records that at most `n` steps give, up to the first unreadable one
  unfoldable pub listed_records : ℕ → FieldRecordIter → List Entry
  listed_records zero c = []
  listed_records (suc n) c =
      elim (record_step image segments c) [
        | None ↦ []
        | Some s ↦ elim s.found [ None ↦ [] | Some e ↦ e ∷ listed_records n s.next ]
      ]

  -- both are those of the entries
  module _ (size : ℕ) where
    abbrev after : ℕ → EntryIter → Option Step
    after = entriesAfter image segments (record_layout size)

    abbrev entries : ℕ → EntryIter → List Entry
    entries = entriesListed image segments (record_layout size)

    after_entries : (n : ℕ) (c : EntryIter) → record_step_after n (records_from size c) ≡ option_map (sized size) (after n c)
    unfolding record_step_after entriesAfter
    after_entries zero c = refl
    after_entries (suc n) c = go (entry_step image segments (record_layout size) c) (after_entries n)
      where
        go : (x : Option Step) → ((e : EntryIter) → record_step_after n (records_from size e) ≡ option_map (sized size) (after n e))
            → (elim (option_map (sized size) x) as (λ _. Option RecordStep) [ None ↦ None | Some s ↦ record_step_after n s.next ])
            ≡ option_map (sized size) (elim x as (λ _. Option Step) [ None ↦ None | Some s ↦ after n s.next ])
        go None ih = refl
        go (Some s) ih = ih s.next

    listed_entries_lem : (n : ℕ) (c : EntryIter) → listed_records n (records_from size c) ≡ entries n c
    unfolding listed_records entriesListed
    listed_entries_lem zero c = refl
    listed_entries_lem (suc n) c = go (entry_step image segments (record_layout size) c) (listed_entries_lem n)
      where
        go : (x : Option Step) → ((e : EntryIter) → listed_records n (records_from size e) ≡ entries n e)
            → ◌≡◌ {A = List Entry}
            (elim (option_map (sized size) x) [ None ↦ [] | Some s ↦ elim s.found [ None ↦ [] | Some e ↦ e ∷ listed_records n s.next ] ])
            (elim x [ None ↦ [] | Some s ↦ elim s.found [ None ↦ [] | Some e ↦ e ∷ entries n s.next ] ])
        go None ih = refl
        go (Some s) ih = ap (λ (l : List Entry). elim s.found as (λ _. List Entry) [ None ↦ [] | Some e ↦ e ∷ l ]) (ih s.next)

  -- the records of a descriptor
  module _ (d : FieldDescriptor) where
    abbrev base : ℕ
    base = records_base d.address

    abbrev size : ℕ
    size = d.field_record_size

    abbrev count : ℕ
    count = d.num_fields

    -- stepping k + 1 times gives what the program of record k gives
    pub stepped_record : (k : ℕ) → k < count → Readable image segments (record_layout size) base count k
        → record_step_after k (records_of d)
        ≡ Some (record { found = run image segments (field_record base size count k); next = records_from size (iter_at base count (k + 1)) })
    stepped_record k l r =
        after_entries size k (start base count) ∙ ap (option_map (sized size)) (stepped_entry image segments (record_layout size) base count k l r)

    -- the list of a caller who steps to the end: its record `k` is what the program of record `k` reads, for every `k`
    pub records_listed_all : (n k : ℕ) → count ≤ n → slice_get (listed_records n (records_of d)) k ≡ run image segments (field_record base size count k)
    records_listed_all n k c = ap (λ (l : List Entry). slice_get l k) (listed_entries_lem size n (start base count)) ∙ entries-all image segments (record_layout size) base count n k c

    module _ (fields : List ℕ) (vmaddr j : ℕ) (there : run image segments (descriptor_at fields vmaddr j) ≡ Some d) where
      -- as an item: record `k` of descriptor `j`
      pub record_of : (k : ℕ) → run image segments (descriptor_record fields vmaddr j k) ≡ run image segments (field_record base size count k)
      unfolding descriptor_record
      record_of k = run_bind image segments (λ e. field_record (records_base e.address) e.field_record_size e.num_fields k) (descriptor_at fields vmaddr j) ∙ rw there

      pub listed_records_lem : (n k : ℕ) → count ≤ n → slice_get (listed_records n (records_of d)) k ≡ run image segments (descriptor_record fields vmaddr j k)
      listed_records_lem n k c = records_listed_all n k c ∙ sym (record_of k)
