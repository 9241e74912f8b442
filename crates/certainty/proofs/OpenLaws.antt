-- If a row in the listing of what arrived is not certain, it is open: with one byte more, any byte but NUL, the slot has another row or
-- none (`row_open`). So no row that is settled is called open.
use Rattle.std.specs.Prelude.{ℕ, zero, suc, ◌+◌, ◌^◌, ◌≤◌, ◌≡◌, refl, List, [], ◌∷◌, ◌++◌, Bool, true, false, cond, length, take, drop, leb, ltb, Some}
use Rattle.std.proofs.Common.{arith, sym, ◌∙◌, ap, true≢false}
use Rattle.std.proofs.lemmas.List.{drop-append-le}
use Rattle.utf8.specs.Text.{until_nul}
use Rattle.util.specs.declared.cstr.Place.{Place}
use Rattle.util.specs.Cstr.{text_at}
use Rattle.runtime.specs.Reads.{done, nothing, text, run}
use Rattle.runtime.proofs.PathLaws.{BytesRead, TextRead, bytes_read_lem, text_read, text_at_is}
use Rattle.typedescriptor.specs.Row.{TypeRow, type_row, name_address, row_name, descriptor}
use Rattle.typedescriptor.specs.Slots.{slot_address, slot_row}
use Rattle.typedescriptor.proofs.PathLaws.{slot_program}
use Rattle.certainty.specs.Certain.{has_nul, certain}
use Rattle.certainty.proofs.ItemLaws.{nul_before, found_inside, row_certain}

-- the text of bytes without a NUL is all of them, and with one byte more, one longer
open_text : (s : List ℕ) → has_nul s ≡ false → (b : ℕ) → (length (until_nul s) ≡ length s) × (length (until_nul (s ++ (suc b ∷ []))) ≡ length s + 1)
unfolding has_nul until_nul
open_text [] e b = (refl, refl)
open_text (zero ∷ s) e b = absurd (true≢false e)
open_text (suc a ∷ s) e b = let w = open_text s e b in (ap suc w.0, omega (arith, w.1))

-- the name of a row is the text at its place
row_text : (image segments types : List ℕ) (start i : ℕ) (r : TypeRow) → run image segments (slot_row types start i) ≡ Some r → text_at image r.name.start ≡ Some r.name
unfolding descriptor row_name run
row_text image segments types start i r e =
    let p : slot_row types start i ≡ descriptor (slot_address types start i) = slot_program image segments types start i r e in
    of_descriptor (slot_address types start i) (rw p at e)
  where
    named : (a : ℕ) (h : List ℕ) (b : Bool) → run image segments (cond b nothing (text (name_address a h) (λ p t. done (type_row a h p t)))) ≡ Some r → text_at image r.name.start ≡ Some r.name
    named a h true f = let z : ◌≡◌ {A = ℕ} 0 1 = cc in absurd (omega arith)
    named a h false f =
        let v : TextRead image segments (name_address a h) (λ p t. done (type_row a h p t)) r = text_read image segments (name_address a h) r _ f in
        let q : type_row a h v.place (until_nul (drop v.place.start image)) ≡ r = (let g = v.goes in cc) in
        let n : v.place ≡ r.name = ap (λ (x : TypeRow). x.name) q in
        rw n at v.found

    of_descriptor : (a : ℕ) → run image segments (descriptor a) ≡ Some r → text_at image r.name.start ≡ Some r.name
    of_descriptor a f =
        let w : BytesRead image segments a 20 (row_name a) r = bytes_read_lem image segments a r 20 (row_name a) f in
        named a (take 20 (drop w.offset image)) (leb (2 ^ 64) (a + 8)) w.goes

module _ (arrived segments types : List ℕ) (start i : ℕ) (r : TypeRow) (e : run arrived segments (slot_row types start i) ≡ Some r) where
  pub row_open : certain arrived segments (slot_row types start i) ≡ false → (b : ℕ) → run (arrived ++ (suc b ∷ [])) segments (slot_row types start i) ≡ Some r → ⊥
  row_open f b g =
      let o : ℕ = r.name.start in
      let t : text_at arrived o ≡ Some r.name = row_text arrived segments types start i r e in
      let h : o ≤ length arrived = found_inside arrived segments o r.name t in
      let n : r.name.size ≡ length (until_nul (drop o arrived)) = ap (λ (p : Place). p.size) (text_at_is arrived o r.name t) in
      let c : has_nul (drop o arrived) ≡ false =
      nul_before arrived o h ∙ ap (λ (k : ℕ). ltb (o + k) (length arrived)) (sym n) ∙ sym (row_certain arrived segments types start i r e) ∙ f in
      let n' : r.name.size ≡ length (until_nul (drop o (arrived ++ (suc b ∷ [])))) =
      ap (λ (p : Place). p.size) (text_at_is (arrived ++ (suc b ∷ [])) o r.name (row_text (arrived ++ (suc b ∷ [])) segments types start i r g)) in
      let d : length (until_nul (drop o (arrived ++ (suc b ∷ [])))) ≡ length (until_nul (drop o arrived ++ (suc b ∷ []))) =
      ap (λ (s : List ℕ). length (until_nul s)) (drop-append-le o arrived (suc b ∷ []) h) in
      let w = open_text (drop o arrived) c b in
      omega (arith, w.0, w.1)
