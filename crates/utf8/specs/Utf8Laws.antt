-- What `wellFormed` accepts is well-formed by Table 3-7 (`utf8-sound`), and it accepts what is well-formed (`utf8-complete`). What
-- `lead_limits` promises fixes its answer (`leads-injective`). The last laws say which bytes `untilNul` and `textLength` speak of.
-- Assumes nothing.
use Rattle.std.specs.Prelude.{◌≡◌, ℕ, zero, suc, ◌≤◌, Bool, true, false, List, [], ◌∷◌, ◌++◌, length, take, replicate, Option, Some, None}
use Rattle.std.proofs.Common.{arith, sym, ap, subst, ◌∙◌, ⊎_elim, le-leb, leb-true}
use Rattle.std.specs.Prelude.{refl}
use mathlib.Core.List.Memᴰ
use mathlib.Core.List.{Memᴰ}
use Rattle.std.proofs.Math.Bool.{and-eq-true_iff}
use Rattle.std.proofs.lemmas.Bool.{false≢true}
use Rattle.std.proofs.lemmas.List.{length-replicate}
use Rattle.utf8.specs.Table.{ByteRange, table, ◌to◌, Sequence, WellFormed}
use Rattle.utf8.specs.LeadBytes.{Starts}
use Rattle.utf8.specs.Text.{in_range, following, goes_on, well_formed, until_nul, text_length, leads}
use Rattle.utf8.specs.declared.Lead.{Lead}
use Rattle.utf8.specs.declared.Lead.TheVariants.{Alone, Tail, Invalid}

-- rows in the order of their lead bytes, the first of which is at least n
abbrev Ordered : ℕ → List (List ByteRange) → Type 0
Ordered n [] = Unit {0}
Ordered n ([] ∷ rows) = ⊥
Ordered n ((r ∷ rs) ∷ rows) = (n ≤ r.low) × (r.low ≤ r.high) × Ordered (suc r.high) rows

table_ordered : Ordered 0 table
unfolding table
table_ordered = omega arith

pub within_true : (r : ByteRange) (b : ℕ) → r.low ≤ b → b ≤ r.high → in_range r b ≡ true
within_true r b l h = rw (le-leb _ _ l, le-leb _ _ h)

pub within_bounds : (r : ByteRange) (b : ℕ) → in_range r b ≡ true → (r.low ≤ b) × (b ≤ r.high)
within_bounds r b w = let both = (and-eq-true_iff _ _).0 w in (leb-true _ _ both.0, leb-true _ _ both.1)

pub within_false : (r : ByteRange) (b : ℕ) → (r.low ≤ b → b ≤ r.high → ⊥) → in_range r b ≡ false
within_false r b out = go (in_range r b) refl
  where
    go : (t : Bool) → in_range r b ≡ t → in_range r b ≡ false
    go true w = let bounds = within_bounds r b w in absurd (out bounds.0 bounds.1)
    go false w = w

starts_later : {row : List ByteRange} {rows : List (List ByteRange)} {b : ℕ} {rs : List ByteRange} → Starts rows b rs → Starts (row ∷ rows) b rs
starts_later s = record { lead = s.lead; row = Memᴰ.tail s.row; bounds = s.bounds }

pub following_starts : (rows : List (List ByteRange)) (b : ℕ) (rs : List ByteRange) → following rows b ≡ Some rs → Starts rows b rs
unfolding following
following_starts [] b rs e = let z : ◌≡◌ {A = ℕ} 0 1 = cc in absurd (omega arith)
following_starts ([] ∷ rows) b rs e = starts_later (following_starts rows b rs e)
following_starts ((r ∷ rs') ∷ rows) b rs e = go (λ k. following_starts rows b rs k) (in_range r b) refl
  where
    go : (following rows b ≡ Some rs → Starts rows b rs) → (t : Bool) → in_range r b ≡ t → Starts ((r ∷ rs') ∷ rows) b rs
    go later true w =
        let f : Some rs' ≡ Some rs = rw (w, following) at e in
        record { lead = r; row = Memᴰ.head {x = r ∷ rs'} (cc); bounds = within_bounds r b w }
    go later false w = starts_later (later (rw (w, following) at e))

-- the rows have different lead bytes, so the row of a lead byte is the one that is found
starts_following : (n : ℕ) (rows : List (List ByteRange)) (b : ℕ) (rs : List ByteRange) → Ordered n rows → Starts rows b rs → (n ≤ b) × (following rows b ≡ Some rs)
unfolding following
starts_following n [] b rs o s = absurd (Memᴰ.not-nil s.row)
starts_following n ([] ∷ rows) b rs o s = absurd o
starts_following n ((r ∷ rs') ∷ rows) b rs o s =
    ⊎_elim
    (λ (e : s.lead ∷ rs ≡ r ∷ rs').
    let l : s.lead ≡ r = cc in
    let t : rs' ≡ rs = cc in
    let bounds : (r.low ≤ b) × (b ≤ r.high) = rw l at s.bounds in
    (omega arith, rw (within_true r b bounds.0 bounds.1, following) (ap Some t)))
    (λ m.
    let later = starts_following (suc r.high) rows b rs o.2 (record { lead = s.lead; row = m; bounds = s.bounds }) in
    (omega arith, rw (within_false r b (λ l h. omega arith), following) later.1))
    (Memᴰ.cases_cons s.row)

pub row_found : {b : ℕ} {rs : List ByteRange} → Starts table b rs → following table b ≡ Some rs
row_found s = (starts_following 0 table _ _ table_ordered s).1

-- where a text goes on in the pending ranges: a sequence of these, and then a well-formed text
record Split (rs : List ByteRange) (s : List ℕ) : Type 0 where
  now : List ℕ
  then : List ℕ
  whole : now ++ then ≡ s
  sequence : Sequence rs now
  rest : WellFormed then

split : (s : List ℕ) (rs : List ByteRange) → goes_on s rs ≡ true → Split rs s
unfolding goes_on
split [] [] e = record { now = []; then = []; whole = refl; sequence = Sequence.none; rest = WellFormed.empty }
split [] (r ∷ rs) e = absurd (false≢true e)
split (b ∷ bs) [] e = go (λ rs k. split bs rs k) (following table b) refl
  where
    go : ((rs : List ByteRange) → goes_on bs rs ≡ true → Split rs bs) → (o : Option (List ByteRange)) → following table b ≡ o → Split [] (b ∷ bs)
    go later None f = absurd (false≢true (rw (f, goes_on) at e))
    go later (Some rs) f =
        let l = later rs (rw (f, goes_on) at e) in
        let s = following_starts table b rs f in
        let q = Sequence.byte s.bounds.0 s.bounds.1 l.sequence in
        record {
          now = [];
          then = b ∷ bs;
          whole = refl;
          sequence = Sequence.none;
          rest = subst WellFormed (ap (λ t. b ∷ t) l.whole) (WellFormed.sequence s.row q l.rest);
        }
split (b ∷ bs) (r ∷ rs) e =
    let both = (and-eq-true_iff (in_range r b) (goes_on bs rs)).0 e in
    let bounds = within_bounds r b both.0 in
    let l = split bs rs both.1 in
    record {
      now = b ∷ l.now;
      then = l.then;
      whole = ap (λ t. b ∷ t) l.whole;
      sequence = Sequence.byte bounds.0 bounds.1 l.sequence;
      rest = l.rest;
    }

pub utf8_sound : (s : List ℕ) → well_formed s ≡ true → WellFormed s
utf8_sound s e = let l = split s [] e in go l.sequence l.rest l.whole
  where
    go : {t u : List ℕ} → Sequence [] t → WellFormed u → t ++ u ≡ s → WellFormed s
    go Sequence.none w e = subst WellFormed e w

goes_on_lem : {rs : List ByteRange} {s : List ℕ} (t : List ℕ) → Sequence rs s → goes_on t [] ≡ true → goes_on (s ++ t) rs ≡ true
unfolding goes_on
goes_on_lem t Sequence.none e = e
goes_on_lem t (Sequence.byte l h q) e = rw (within_true _ _ l h) (goes_on_lem t q e)

pub utf8_complete : (s : List ℕ) → WellFormed s → well_formed s ≡ true
unfolding goes_on
utf8_complete _ WellFormed.empty = refl
utf8_complete _ (WellFormed.sequence {t = t} m q w) = go m q (utf8_complete t w)
  where
    go : {row : List ByteRange} {s : List ℕ} → Memᴰ row table → Sequence row s → well_formed t ≡ true → well_formed (s ++ t) ≡ true
    go m Sequence.none e = e
    go m (Sequence.byte {r = r} {rs = rs} {b = b} l h q) e =
        rw (row_found {b = b} {rs = rs} (record { lead = r; row = m; bounds = (l, h) }), goes_on) (goes_on_lem t q e)

-- two answers about a lead byte that ask for the same ranges are the same answer
pub leads_injective : (a b : Lead) → leads a ≡ leads b → a ≡ b
leads_injective Alone Alone e = refl
leads_injective Invalid Invalid e = refl
leads_injective Alone (Tail l h n) e = let z : ◌≡◌ {A = ℕ} 0 1 = cc in absurd (omega arith)
leads_injective Alone Invalid e = let z : ◌≡◌ {A = ℕ} 0 1 = cc in absurd (omega arith)
leads_injective (Tail l h n) Alone e = let z : ◌≡◌ {A = ℕ} 0 1 = cc in absurd (omega arith)
leads_injective (Tail l h n) Invalid e = let z : ◌≡◌ {A = ℕ} 0 1 = cc in absurd (omega arith)
leads_injective Invalid Alone e = let z : ◌≡◌ {A = ℕ} 0 1 = cc in absurd (omega arith)
leads_injective Invalid (Tail l h n) e = let z : ◌≡◌ {A = ℕ} 0 1 = cc in absurd (omega arith)
leads_injective (Tail l h n) (Tail l' h' n') e =
    let second : l to h ≡ l' to h' = cc in
    let low : l ≡ l' = ap (λ (r : ByteRange). r.low) second in
    let high : h ≡ h' = ap (λ (r : ByteRange). r.high) second in
    let later : replicate n (0x80 to 0xbf) ≡ replicate n' (0x80 to 0xbf) = cc in
    let more : n ≡ n' = sym (length-replicate n (0x80 to 0xbf)) ∙ ap length later ∙ length-replicate n' (0x80 to 0xbf) in
    cc

pub until_nul_length : (s : List ℕ) → length (until_nul s) ≤ length s
unfolding until_nul
until_nul_length [] = omega arith
until_nul_length (zero ∷ s) = omega arith
until_nul_length (suc b ∷ s) = omega (arith, until_nul_length s)

pub take_until_nul : (s : List ℕ) → take (length (until_nul s)) s ≡ until_nul s
unfolding until_nul
take_until_nul [] = refl
take_until_nul (zero ∷ s) = refl
take_until_nul (suc b ∷ s) = ap (λ t. suc b ∷ t) (take_until_nul s)

-- a text is all the bytes before the first NUL, and they are well-formed
pub text_length_lem : (s : List ℕ) (n : ℕ) → text_length s ≡ Some n → (n ≡ length (until_nul s)) × (well_formed (until_nul s) ≡ true)
unfolding text_length
text_length_lem s n e = go (well_formed (until_nul s)) refl
  where
    go : (t : Bool) → well_formed (until_nul s) ≡ t → (n ≡ length (until_nul s)) × (well_formed (until_nul s) ≡ true)
    go true w = let f : Some (length (until_nul s)) ≡ Some n = rw (w, text_length) at e in (cc, w)
    go false w = let f : None ≡ Some n = rw (w, text_length) at e in let z : ◌≡◌ {A = ℕ} 0 1 = cc in absurd (omega arith)

pub text_length_le : (s : List ℕ) (n : ℕ) → text_length s ≡ Some n → n ≤ length s
text_length_le s n e = omega (arith, text_length_lem s n e, until_nul_length s)

pub text_bytes : (s : List ℕ) (n : ℕ) → text_length s ≡ Some n → take n s ≡ until_nul s
text_bytes s n e = rw (text_length_lem s n e).0 (take_until_nul s)

pub text_well_formed : (s : List ℕ) (n : ℕ) → text_length s ≡ Some n → WellFormed (take n s)
text_well_formed s n e = rw (text_bytes s n e) (utf8_sound _ (text_length_lem s n e).1)
