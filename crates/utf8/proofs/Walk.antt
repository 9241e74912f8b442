-- Where a walk over the bytes stands, how it goes on by a byte, and how it ends: the laws of `scan_text`. Assumes nothing.
use Rattle.std.specs.Prelude.{◌≡◌, ℕ, zero, suc, ◌+◌, ◌-◌, ◌<◌, ◌≤◌, Bool, true, false, ◌&&◌, ltb, leb, List, [], ◌∷◌, length, get_or, take, drop, Option, Some, None}
use native.Mathlib.Nat.{not-suc-le-zero, zero-add, add-zero}
use native.Mathlib.Numerals.{add-one}
use native.Mathlib.Decide.{dec_lt}
use native.Mathlib.Omega.{arith}
use mathlib.Core.Path.{refl, sym, ap, subst, ◌∙◌}
use mathlib.Core.List.{Memᴰ}
use mathlib.Core.Bool.{and-eq-true_iff, and-false}
use borrow.Author.Count.{below_more}
use borrow.Author.Tests.{leb-true, ltb-true}
use Rattle.utf8.specs.Plain.{Plain}
use lib.ListN.{length-replicate, length-drop, drop_of_length-le}
use lib.Seq.{drop-cons, get_or-drop, take_all}
use Rattle.utf8.specs.Table.{ByteRange, table, ◌to◌}
use Rattle.utf8.specs.Text.{in_range, following, goes_on, until_nul, text_length, leads}
use Rattle.utf8.specs.ScanAt.{ScanAt, RowOf, others}
use Rattle.utf8.specs.declared.Lead.TheVariants.{Tail}
use Rattle.utf8.specs.Utf8Laws.{within_true, within_false, following_starts, until_nul_length}
use Rattle.utf8.proofs.Rows.{in_row}

-- no row lets a NUL be the second byte
abbrev Second : List ByteRange → Type 0
Second [] = Unit {0}
Second (r ∷ []) = Unit {0}
Second (r ∷ q ∷ rs) = 0 < q.low

abbrev Each : List (List ByteRange) → Type 0
Each [] = Unit {0}
Each (row ∷ rows) = Second row × Each rows

second : {row : List ByteRange} {rows : List (List ByteRange)} → Memᴰ row rows → Each rows → Second row
second (Memᴰ.head e) all = subst Second (sym e) all.0
second (Memᴰ.tail m) all = second m all.1

pub tail_low : (low high more b : ℕ) → leads (Tail low high more) ≡ following table b → 0 < low
unfolding table
tail_low low high more b e = second (following_starts table b _ (sym e)).row (omega arith)

pub start : (s : List ℕ) → ScanAt s 0 []
start s = record { formed = refl; size = omega arith }

until_nul_cons : (b : ℕ) (t : List ℕ) → (b ≡ 0 → ⊥) → until_nul (b ∷ t) ≡ b ∷ until_nul t
unfolding until_nul
until_nul_cons zero t h = absurd (h refl)
until_nul_cons (suc b) t h = refl

module _ (s : List ℕ) (i : ℕ) (inside : i < length s) where
  here : (get_or s i 0 ≡ 0 → ⊥) → until_nul (drop i s) ≡ get_or s i 0 ∷ until_nul (drop (i + 1) s)
  here h = rw (add-one, drop-cons s i 0 inside) (until_nul_cons _ _ h)

  -- on by a byte that is no NUL
  step : (rs rs' : List ByteRange) → (get_or s i 0 ≡ 0 → ⊥) → ((t : List ℕ) → goes_on (get_or s i 0 ∷ t) rs ≡ goes_on t rs') → ScanAt s i rs → ScanAt s (i + 1) rs'
  step rs rs' h g w =
      record {
        formed = w.formed ∙ ap (λ t. goes_on t rs) (here h) ∙ g _;
        size = omega (arith, w.size, ap length (here h));
      }

  pub lead_step : (rs : List ByteRange) → (get_or s i 0 ≡ 0 → ⊥) → Some rs ≡ following table (get_or s i 0) → ScanAt s i [] → ScanAt s (i + 1) rs
  unfolding goes_on
  lead_step rs h e = step [] rs h (λ t. rw (← e, goes_on))

  pub ascii_step : (get_or s i 0 ≡ 0 → ⊥) → get_or s i 0 < 0x80 → ScanAt s i [] → ScanAt s (i + 1) []
  unfolding table
  ascii_step h l = lead_step [] h (in_row 0 table (get_or s i 0) (omega arith))

  pub range_step : (r : ByteRange) (rs : List ByteRange) → 0 < r.low → r.low ≤ get_or s i 0 → get_or s i 0 ≤ r.high → ScanAt s i (r ∷ rs) → ScanAt s (i + 1) rs
  unfolding goes_on
  range_step r rs p l h = step (r ∷ rs) rs (λ e. omega arith) (λ t. rw (within_true r _ l h))

  pub no_lead : (get_or s i 0 ≡ 0 → ⊥) → None ≡ following table (get_or s i 0) → goes_on (until_nul (drop i s)) [] ≡ false
  unfolding goes_on
  no_lead h e = rw (here h, ← e, goes_on)

  pub at_nul : get_or s i 0 ≡ 0 → until_nul (drop i s) ≡ []
  unfolding until_nul
  at_nul e = rw (drop-cons s i 0 inside, e)

pub at_end_lem : (s : List ℕ) (i : ℕ) → length s ≤ i → until_nul (drop i s) ≡ []
unfolding until_nul
at_end_lem s i h = rw (drop_of_length-le s h)

refused : (b : ℕ) (t : List ℕ) (r : ByteRange) (rs : List ByteRange) → (r.low ≤ b → b ≤ r.high → ⊥) → goes_on (until_nul (b ∷ t)) (r ∷ rs) ≡ false
unfolding goes_on until_nul
refused zero t r rs out = refl
refused (suc b) t r rs out = rw (within_false r (suc b) out)

-- a range is pending, and the byte there is not in it
pub no_range : (s : List ℕ) (i : ℕ) (r : ByteRange) (rs : List ByteRange) → i < length s → (r.low ≤ get_or s i 0 → get_or s i 0 ≤ r.high → ⊥) → goes_on (until_nul (drop i s)) (r ∷ rs) ≡ false
no_range s i r rs l out = rw (drop-cons s i 0 l) (refused _ _ r rs out)

-- ---- the bytes after the second

one_more : (left : ℕ) → 0 < left → left ≡ suc (left - 1)
one_more left h = omega arith

pub tail_step : (s : List ℕ) (i left : ℕ) → 0 < left → i + left ≤ length s → 0x80 ≤ get_or s i 0 → get_or s i 0 ≤ 0xbf → ScanAt s i (others left) → ScanAt s (i + 1) (others (left - 1))
tail_step s i left h l low high w = range_step s i (omega arith) (0x80 to 0xbf) _ (omega arith) low high (subst (λ n. ScanAt s i (others n)) (one_more left h) w)

pub tail_done : (s : List ℕ) (i left : ℕ) → left ≤ 0 → ScanAt s i (others left) → ScanAt s i []
tail_done s i left h w = let none_left : left ≡ 0 = omega arith in rw none_left at w

pub no_tail : (s : List ℕ) (i left : ℕ) → 0 < left → i + left ≤ length s → (0x80 ≤ get_or s i 0 → get_or s i 0 ≤ 0xbf → ⊥) → goes_on (until_nul (drop i s)) (others left) ≡ false
no_tail s i left h l out = subst (λ n. goes_on (until_nul (drop i s)) (others n) ≡ false) (sym (one_more left h)) (no_range s i _ _ (omega arith) out)

fewer : (t : List ℕ) (rs : List ByteRange) → length t < length rs → goes_on t rs ≡ false
unfolding goes_on
fewer t [] h = absurd (omega arith)
fewer [] (r ∷ rs) h = refl
fewer (b ∷ t) (r ∷ rs) h = rw (fewer t rs (omega arith)) (and-false (in_range r b))

-- fewer bytes are left than ranges are pending
pub too_few : (s : List ℕ) (i more : ℕ) (r : ByteRange) → length s - i ≤ more → goes_on (until_nul (drop i s)) (r ∷ others more) ≡ false
too_few s i more r h =
    fewer _ _ (omega (arith, until_nul_length (drop i s), length-drop i s, length-replicate more (0x80 to 0xbf)))

-- what a walk that was left at i answers
abbrev pub outcome : Bool → ℕ → Option ℕ
outcome true i = Some i
outcome false i = None

pub ends : (s : List ℕ) {i j : ℕ} {formed : Bool} → j ≡ i → formed ≡ true → ScanAt s i [] → until_nul (drop i s) ≡ [] → outcome formed j ≡ text_length s
unfolding goes_on text_length
ends s {i} p f w e =
    let g : goes_on (until_nul s) [] ≡ true = w.formed ∙ ap (λ t. goes_on t []) e in
    rw (f, g, text_length) (ap Some (omega (arith, w.size, ap length e)))

pub ill_formed : (s : List ℕ) (j : ℕ) {i : ℕ} {rs : List ByteRange} {formed : Bool} → formed ≡ false → ScanAt s i rs → goes_on (until_nul (drop i s)) rs ≡ false → outcome formed j ≡ text_length s
unfolding text_length
ill_formed s j f w e = rw (f, w.formed ∙ e, text_length)

-- ---- the first part, in blocks

pub plain_none : (s : List ℕ) (at : ℕ) → Plain s at 0
plain_none s at = record { each = λ k h. absurd (not-suc-le-zero h) }

pub plain_more : (s : List ℕ) (at k : ℕ) (all : Bool) → (all ≡ true → Plain s at k) → all && ltb 0 (get_or s (at + k) 0) && ltb (get_or s (at + k) 0) 0x80 ≡ true → Plain s at (k + 1)
plain_more s at k all inv e =
    let a = (and-eq-true_iff _ _).0 e in
    let b = (and-eq-true_iff _ _).0 a.0 in
    record { each = below_more _ k (inv b.0).each (ltb-true _ _ b.1, ltb-true _ _ a.1) }

pub plain_join : (s : List ℕ) (i n : ℕ) → Plain s 0 i → Plain s i n → Plain s 0 (i + n)
plain_join s i n p q = record { each = each }
  where
    each : (k : ℕ) → k < i + n → (0 < get_or s (0 + k) 0) × (get_or s (0 + k) 0 < 0x80)
    each k h =
        elim (dec_lt k i) [
          | yes l ↦ p.each k l
          | no l ↦
              let j : i + (k - i) ≡ 0 + k = omega arith in
              rw j at (q.each (k - i) (omega arith))
        ]

pub plain_walk : (s : List ℕ) (i n : ℕ) → Plain (drop i s) 0 n → n ≤ length s - i → ScanAt s i [] → ScanAt s (i + n) []
plain_walk s i zero p h w = rw add-zero w
plain_walk s i (suc n) p h w =
    let b : (0 < get_or s (i + n) 0) × (get_or s (i + n) 0 < 0x80) = rw (zero-add, get_or-drop) at (p.each n (omega arith)) in
    let before = plain_walk s i n (record { each = λ k l. p.each k (omega arith) }) (omega arith) w in
    let after : ScanAt s (i + n + 1) [] = ascii_step s (i + n) (omega arith) (λ e. omega arith) b.1 before in
    subst (λ k. ScanAt s k []) (omega arith) after

-- what `plain_prefix` tells of the bytes from i on, which a range of a slice gives
module _ (s : List ℕ) (i n : ℕ) (l : n ≤ length (take (length s - i) (drop i s))) where
  rest : take (length s - i) (drop i s) ≡ drop i s
  rest = take_all (length s - i) (drop i s) (omega (arith, length-drop i s))

  pub rest_within : n ≤ length s - i
  rest_within = omega (arith, ap length rest, length-drop i s)

  pub rest_walk : Plain (take (length s - i) (drop i s)) 0 n → ScanAt s i [] → ScanAt s (i + n) []
  rest_walk p = plain_walk s i n (rw rest at p) rest_within

-- ---- sequences of one row, in blocks

pub block_lead : (s : List ℕ) (at k : ℕ) (all : Bool) {first last low more : ℕ} → RowOf first last low more → at + k + 1 < length s → (all ≡ true → ScanAt s (at + k) []) → all && leb first (get_or s (at + k) 0) && leb (get_or s (at + k) 0) last && leb low (get_or s (at + k + 1) 0) && leb (get_or s (at + k + 1) 0) 0xbf ≡ true → ScanAt s (at + (k + 2)) (others more)
block_lead s at k all {more = more} row l inv e =
    let a = (and-eq-true_iff _ _).0 e in
    let b = (and-eq-true_iff _ _).0 a.0 in
    let c = (and-eq-true_iff _ _).0 b.0 in
    let d = (and-eq-true_iff _ _).0 c.0 in
    let above = leb-true _ _ d.1 in
    let lead = lead_step s (at + k) (omega arith) _ (λ z. omega (arith, row.bounds)) (row.each _ above (leb-true _ _ c.1)) (inv d.0) in
    let second = range_step s (at + k + 1) l _ _ row.bounds.1 (leb-true _ _ b.1) (leb-true _ _ a.1) lead in
    subst (λ i. ScanAt s i (others more)) (omega arith) second

pub block_tail : (s : List ℕ) (at k left : ℕ) (all : Bool) → 0 < left → at + k + left ≤ length s → (all ≡ true → ScanAt s (at + k) (others left)) → all && leb 0x80 (get_or s (at + k) 0) && leb (get_or s (at + k) 0) 0xbf ≡ true → ScanAt s (at + (k + 1)) (others (left - 1))
block_tail s at k left all h l inv e =
    let a = (and-eq-true_iff _ _).0 e in
    let b = (and-eq-true_iff _ _).0 a.0 in
    subst (λ i. ScanAt s i (others (left - 1))) (omega arith) (tail_step s (at + k) left h l (leb-true _ _ b.1) (leb-true _ _ a.1) (inv b.0))
