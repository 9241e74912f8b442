-- What the code finds of a table of records with names is `named_table`: what a step says (`step_ended`, `step_found`), that a true mapping
-- changes none of it (`named_mapped`), and record after record (`Naming`).
use Rattle.std.specs.Prelude.{ℕ, suc, ◌+◌, ◌*◌, ◌/◌, ◌≤◌, ◌<◌, ◌≡◌, refl, List, ◌++◌, length, Option, Some, None}
use Rattle.std.proofs.Math.Decide.{dec_lt}
use Rattle.std.proofs.Common.{arith, sym, ap, subst, ◌∙◌, append_assoc, length-append}
use Rattle.util.specs.Buffer.{pasted}
use Rattle.util.specs.declared.cstr.Place.{Place}
use Rattle.segment.specs.Mapping.{with_mapping, TrueMapping}
use Rattle.segment.specs.declared.segment.Mapping.{Mapping}
use Rattle.runtime.specs.Reads.{text_place, run}
use Rattle.runtime.proofs.CallsLaws.{text_mapped, name_mapped}
use Rattle.runtime.specs.FieldName.{NamePlace, in_image, in_strings, field_name, field_name_of}
use Rattle.runtime.specs.declared.reflstr.FieldName.{FieldName}
use Rattle.runtime.specs.PlaceNumbers.{text_numbers, field_numbers}
use Rattle.vtable.specs.Entries.{Entry, entry_at}
use Rattle.field.specs.declared.record.FieldRecord.{FieldRecord}
use Rattle.field.specs.declared.record.FieldRecordIter.{FieldRecordIter}
use Rattle.field.specs.Records.{record_layout, RecordStep, record_step, of_record}
use Rattle.field.proofs.RecordsLaws.{record_end, record_gives, record_mapped}
use Rattle.entry_tables.specs.declared.list.Stop.{Stop}
use Rattle.entry_tables.specs.Tables.{entry_numbers, stop_number, stop_at, Lists}
use Rattle.entry_tables.proofs.TablesLaws.{Going, start_going, stops_end, stops_full, stops_none, goes_on_lem}
use Rattle.entry_tables.proofs.PastedLaws.{pasted_then, pasted_as}
use Rattle.named_records.specs.NamedRecords.{named_numbers, named_in}

-- ---- a record's numbers

pub text_long : (x : Option Place) → length (text_numbers x) ≡ 3
text_long None = refl
text_long (Some p) = refl

pub name_long : (x : Option NamePlace) → length (field_numbers x) ≡ 3
name_long None = refl
name_long (Some (in_image p)) = refl
name_long (Some (in_strings p)) = refl

-- the case of a name
pub text_known : (t u : Option Place) → t ≡ u → text_numbers u ≡ text_numbers t
text_known t u e = ap (λ (x : Option Place). text_numbers x) (sym e)

pub name_known : (t u : Option FieldName) → t ≡ u → field_numbers (field_name_of u) ≡ field_numbers (field_name_of t)
name_known t u e = ap (λ (x : Option FieldName). field_numbers (field_name_of x)) (sym e)

module _ (image segments strings : List ℕ) (start : ℕ) where
  abbrev numbers : Entry → List ℕ
  numbers = named_numbers image segments strings start

  pub named_long : (r : FieldRecord) → length (numbers (of_record r)) ≡ 10
  named_long r =
      let t : Option Place = text_place image segments r.mangled_type_name_va in
      let n : Option NamePlace = field_name image segments strings start r.field_name_va in
      let six : length (text_numbers t) + length (field_numbers n) ≡ 6 = omega (arith, text_long t, name_long n) in
      ap (λ (j : ℕ). suc (suc (suc (suc j)))) (length-append (text_numbers t) (field_numbers n) ∙ six)

  -- a record's numbers in the list: its own four, and then those of its two names
  pub names_put : (r : FieldRecord) (x : Option Place) (y : Option NamePlace) (b b₁ b₂ b₃ : List ℕ) (at : ℕ) → at + 10 ≤ length b
      → b₁ ≡ pasted b at (entry_numbers (of_record r)) → x ≡ text_place image segments r.mangled_type_name_va → b₂ ≡ pasted b₁ (at + 4) (text_numbers x)
      → y ≡ field_name image segments strings start r.field_name_va → b₃ ≡ pasted b₂ (at + 7) (field_numbers y) → b₃ ≡ pasted b at (numbers (of_record r))
  names_put r x y b b₁ b₂ b₃ at h e₁ ex e₂ ey e₃ =
      let own : List ℕ = entry_numbers (of_record r) in
      let two : b₂ ≡ pasted b at (own ++ text_numbers x) = pasted_then b own (text_numbers x) b₁ b₂ at 4 e₁ refl e₂ (omega arith) in
      let seven : length (own ++ text_numbers x) ≡ 7 = ap (λ (j : ℕ). suc (suc (suc (suc j)))) (text_long x) in
      let same : (own ++ text_numbers x) ++ field_numbers y ≡ numbers (of_record r) = append_assoc own (text_numbers x) (field_numbers y) ∙ rw (ex, ey) in
      pasted_then b (own ++ text_numbers x) (field_numbers y) b₂ b₃ at 7 two seven e₃ (omega arith) ∙ ap (pasted b at) same

  -- a true mapping changes none
  pub named_mapped : (m : Mapping) → TrueMapping segments m → (e : Entry) → named_numbers image (with_mapping m segments) strings start e ≡ numbers e
  named_mapped m w e = rw (text_mapped image segments m w, name_mapped image segments m w)

-- ---- a step

module _ (image segments : List ℕ) (m : Mapping) (w : TrueMapping segments m) (c : FieldRecordIter) where
  pub step_ended : None ≡ record_step image (with_mapping m segments) c → c.count ≤ c.cursor
  step_ended e = go (dec_lt c.cursor c.count)
    where
      go : Dec (c.cursor < c.count) → c.count ≤ c.cursor
      go (yes h) =
          let f = e ∙ record_mapped image segments c m w ∙ sym (record_gives image segments c _ refl h) in
          let z : ◌≡◌ {A = ℕ} 0 1 = cc in
          absurd (omega arith)
      go (no h) = omega arith

  -- a record or none, and the walk past it
  abbrev pub Stepped : RecordStep → Type 0
  Stepped s =
      (c.cursor < c.count) × (s.found ≡ run image segments (entry_at (record_layout c.entry_size) c.base_va c.cursor))
      × (s.next ≡ record { base_va = c.base_va; count = c.count; entry_size = c.entry_size; cursor = c.cursor + 1 })

  pub step_found : (s : RecordStep) → Some s ≡ record_step image (with_mapping m segments) c
      → Stepped s
  step_found s e = go (dec_lt c.cursor c.count)
    where
      go : Dec (c.cursor < c.count) → Stepped s
      go (yes h) =
          let f = e ∙ record_mapped image segments c m w ∙ sym (record_gives image segments c _ refl h) in
          (h, cc, cc)
      go (no h) =
          let f = e ∙ record_mapped image segments c m w ∙ sym (record_end image segments c (omega arith)) in
          let z : ◌≡◌ {A = ℕ} 0 1 = cc in
          absurd (omega arith)

-- ---- record after record

-- `n` records are listed, and a walk that began as `walk` stands at the next one
pub record Naming (image segments strings : List ℕ) (start : ℕ) (walk : FieldRecordIter) (b₀ : List ℕ) (here : FieldRecordIter) (n : ℕ) (b : List ℕ) : Type 0 where
  pub going : Going (named_numbers image segments strings start) image segments (record_layout walk.entry_size) walk.base_va walk.count 10 b₀ walk.cursor here.cursor n b
  pub same : here ≡ record { base_va = walk.base_va; count = walk.count; entry_size = walk.entry_size; cursor = here.cursor }

module _ (image segments strings : List ℕ) (start : ℕ) (walk : FieldRecordIter) (b₀ : List ℕ) where
  pub naming_starts : Naming image segments strings start walk b₀ walk 0 b₀
  naming_starts = record { going = start_going _ _ _ _ _ _ _ _ _; same = refl }

  module _ (here : FieldRecordIter) (n : ℕ) (b : List ℕ) (g : Naming image segments strings start walk b₀ here n b) where
    abbrev at : ℕ → FieldRecordIter
    at k = record { base_va = walk.base_va; count = walk.count; entry_size = walk.entry_size; cursor = k }

    abbrev Done : Stop → Type 0
    Done s = Lists (named_in image segments strings start walk (length b₀)) b₀ (record { entries = n; stop = s }) b

    module _ (m : Mapping) (w : TrueMapping segments m) where
      step_at : (x : Option RecordStep) → x ≡ record_step image (with_mapping m segments) here → x ≡ record_step image (with_mapping m segments) (at here.cursor)
      step_at x e = e ∙ ap (record_step image (with_mapping m segments)) g.same

      pub naming_ends : None ≡ record_step image (with_mapping m segments) here → Done Stop.Ended
      naming_ends e =
          stops_end (named_numbers image segments strings start) image segments (record_layout walk.entry_size) walk.base_va walk.count 10 b₀ walk.cursor here.cursor n b g.going
          (step_ended image segments m w (at here.cursor) (step_at None e))

      module _ (less : n < length b₀ / 10) (next : FieldRecordIter) where
        pub naming_stops : Some (record { found = None; next = next }) ≡ record_step image (with_mapping m segments) here → Done Stop.Unreadable
        naming_stops e =
            let f = step_found image segments m w (at here.cursor) _ (step_at _ e) in
            stops_none (named_numbers image segments strings start) image segments (record_layout walk.entry_size) walk.base_va walk.count 10 b₀ walk.cursor here.cursor n b g.going f.0 less f.1

        pub naming_goes_on : (r : FieldRecord) (x b' : List ℕ) → Some (record { found = Some (of_record r); next = next }) ≡ record_step image (with_mapping m segments) here
            → x ≡ named_numbers image (with_mapping m segments) strings start (of_record r) → b' ≡ pasted b (10 * n) x → Naming image segments strings start walk b₀ next (n + 1) b'
        naming_goes_on r x b' e ex eb =
            let f = step_found image segments m w (at here.cursor) _ (step_at _ e) in
            let written = pasted_as b b' x _ (10 * n) eb (ex ∙ named_mapped image segments strings start m w (of_record r)) in
            let going = goes_on_lem (named_numbers image segments strings start) image segments (record_layout walk.entry_size) walk.base_va walk.count 10 b₀ walk.cursor here.cursor n b g.going f.0 less (of_record r) b' f.1 (named_long image segments strings start r) written in
            rw f.2 (record { going = going; same = refl })

    pub naming_fills : length b₀ / 10 ≤ n → (s : Stop) → stop_number s ≡ stop_at here.cursor here.count
        → Lists (named_in image segments strings start walk (length b₀)) b₀ (record { entries = length b₀ / 10; stop = s }) b
    naming_fills l s f =
        let e : n ≡ length b₀ / 10 = omega (arith, g.going.few) in
        subst (λ (k : ℕ). Lists (named_in image segments strings start walk (length b₀)) b₀ (record { entries = k; stop = s }) b) e
        (stops_full (named_numbers image segments strings start) image segments (record_layout walk.entry_size) walk.base_va walk.count 10 b₀ walk.cursor here.cursor n b g.going e (stop_number s)
        (f ∙ ap (λ (h : FieldRecordIter). stop_at here.cursor h.count) g.same))
