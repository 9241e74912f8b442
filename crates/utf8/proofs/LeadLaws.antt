-- The theorem about lead bytes (`lead-bytes`): for each of the 256 bytes, an answer that keeps the promise of `lead_limits` is what the rows of
-- Table 3-7 have of the byte, and it is the one in the list of `classes`. What the rows have is one answer (`has_one`). `texts-worked` has, for
-- each row with limits of its own, a text and bytes next to it that are none.
-- Assumes nothing.
use Rattle.std.specs.Prelude.{◌≡◌, ℕ, zero, suc, ◌+◌, ◌<◌, List, [], ◌∷◌, map, get_or, slice_index_or, Option, Some, None}
use Rattle.std.proofs.Common.{arith, sym, ap, ◌∙◌}
use Rattle.std.specs.Prelude.{refl}
use Rattle.std.proofs.Math.ListN.{get_or-map}
use Rattle.utf8.specs.Table.{ByteRange, table}
use Rattle.utf8.specs.Text.{following, goes_on, until_nul, text_length, leads}
use Rattle.utf8.specs.LeadBytes.{TableHas, classes}
use Rattle.utf8.specs.Utf8Laws.{following_starts, row_found, leads_injective}
use Rattle.utf8.specs.declared.Lead.{Lead}
use Rattle.utf8.specs.declared.Lead.TheVariants.{Alone, Tail, Invalid}

has : (b : ℕ) (r : Lead) → leads r ≡ following table b → TableHas b r
has b Alone e = following_starts table b _ (sym e)
has b (Tail low high more) e = following_starts table b _ (sym e)
has b Invalid e = λ rs s. let f : None ≡ Some rs = e ∙ row_found s in let z : ◌≡◌ {A = ℕ} 0 1 = cc in absurd (omega arith)

pub has_one : (b : ℕ) (r : Lead) → TableHas b r → leads r ≡ following table b
has_one b Alone h = sym (row_found h)
has_one b (Tail low high more) h = sym (row_found h)
has_one b Invalid h = go (following table b) refl
  where
    go : (o : Option (List ByteRange)) → following table b ≡ o → None ≡ following table b
    go None f = sym f
    go (Some rs) f = absurd (h rs (following_starts table b rs f))

-- what is found for n bytes from b on
abbrev found : ℕ → ℕ → List (Option (List ByteRange))
found b zero = []
found b (suc n) = following table b ∷ found (suc b) n

found_at : (n b k : ℕ) → k < n → slice_index_or (found b n) k None ≡ following table (b + k)
found_at zero b k h = absurd (omega arith)
found_at (suc n) b zero h = ap (following table) (omega arith)
found_at (suc n) b (suc k) h = found_at n (suc b) k (omega arith) ∙ ap (following table) (omega arith)

-- the test of all 256 bytes, by computing
tested : found 0 256 ≡ map leads classes
unfolding table following classes
tested = refl

pub in_classes : (b : ℕ) → b < 256 → leads (slice_index_or classes b Invalid) ≡ following table b
in_classes b h = sym (get_or-map leads classes b Invalid) ∙ ap (λ l. get_or l b None) (sym tested) ∙ found_at 256 0 b h ∙ ap (following table) (omega arith)

pub lead_bytes : (b : ℕ) → b < 256 → (r : Lead) → leads r ≡ following table b → TableHas b r × (r ≡ slice_index_or classes b Invalid)
lead_bytes b h r e = (has b r e, leads_injective r _ (e ∙ sym (in_classes b h)))

pub texts_worked :
    (text_length (0x41 ∷ []) ≡ Some 1) ×
    (text_length (0xc2 ∷ 0x80 ∷ []) ≡ Some 2) ×
    (text_length (0xc1 ∷ 0x80 ∷ []) ≡ None) ×
    (text_length (0xe0 ∷ 0xa0 ∷ 0x80 ∷ []) ≡ Some 3) ×
    (text_length (0xe0 ∷ 0x80 ∷ 0x80 ∷ []) ≡ None) ×
    (text_length (0xed ∷ 0x9f ∷ 0xbf ∷ []) ≡ Some 3) ×
    (text_length (0xed ∷ 0xbf ∷ 0xbf ∷ []) ≡ None) ×
    (text_length (0xf0 ∷ 0x90 ∷ 0x80 ∷ 0x80 ∷ []) ≡ Some 4) ×
    (text_length (0xf0 ∷ 0x90 ∷ 0x80 ∷ []) ≡ None) ×
    (text_length (0xf4 ∷ 0x8f ∷ 0xbf ∷ 0xbf ∷ []) ≡ Some 4) ×
    (text_length (0xf4 ∷ 0x90 ∷ 0x80 ∷ 0x80 ∷ []) ≡ None) ×
    (text_length (0xf5 ∷ 0x80 ∷ 0x80 ∷ 0x80 ∷ []) ≡ None)
unfolding table following goes_on until_nul text_length
texts_worked = (refl, refl, refl, refl, refl, refl, refl, refl, refl, refl, refl, refl)
