-- What the code's steps say about digits.
use Rattle.std.specs.Prelude.{◌≡◌, ℕ, zero, suc, ◌+◌, ◌-◌, ◌/◌, ◌%◌, ◌^◌, ◌<◌, ◌≤◌, List, [], ◌∷◌, ◌++◌, length, replicate, slice_set, refl}
use Rattle.std.proofs.Common.{div-one, pow-suc, add-one, arith, sym, ◌∙◌, ap, append_assoc, length-append, lt-ltb, le-ltb}
use Rattle.std.proofs.Math.Nat.{div-div-eq-div-mul}
use Rattle.std.proofs.Math.Decide.{dec_lt}
use Rattle.std.proofs.lemmas.List.{length-replicate, replicate-append-replicate, set_at}
use Rattle.type_lines.specs.Digits.{digit, hex, decimal}

pub digit_low : (n : ℕ) → n < 10 → 48 + n ≡ digit n
unfolding digit
digit_low n h = simp (lt-ltb n 10 h)

pub digit_high : (n : ℕ) → 10 ≤ n → 87 + n ≡ digit n
unfolding digit
digit_high n h = simp (le-ltb n 10 h)

-- zeros, and after them the digits that are already made
module _ (value left : ℕ) (ds : List ℕ) (rest : ℕ) where
  pub record Made : Type 0 where
    pub bound : left ≤ 16
    pub made : ds ≡ replicate left 0 ++ hex (16 - left) value
    pub over : rest ≡ value / 16 ^ (16 - left)

zeros_last : (l : ℕ) (ys : List ℕ) (d : ℕ) → slice_set (replicate (suc l) 0 ++ ys) l d ≡ replicate l 0 ++ (d ∷ ys)
zeros_last l ys d =
    ap (λ (z : List ℕ). slice_set z l d) (ap (λ (z : List ℕ). z ++ ys) (sym (replicate-append-replicate l 1 0 ∙ ap (λ (k : ℕ). replicate k 0) (add-one l))) ∙ append_assoc (replicate l 0) (0 ∷ []) ys)
    ∙ set_at (replicate l 0) 0 ys d l (length-replicate l 0)

pub made_none : (value : ℕ) → Made value 16 (replicate 16 0) value
unfolding hex
made_none value = record { bound = omega arith; made = refl; over = sym (div-one value) }

-- one digit more
pub made_more : (value left : ℕ) (ds : List ℕ) (rest d : ℕ) → Made value left ds rest → d ≡ digit (rest % 16) → 0 < left → Made value (left - 1) (slice_set ds (left - 1) d) (rest / 16)
unfolding hex
made_more value zero ds rest d m e h = absurd (omega arith)
made_more value (suc l) ds rest d m e h =
    let less : suc l - 1 ≡ l = omega arith in
    let more : 16 - l ≡ suc (16 - suc l) = omega (arith, m.bound) in
    record {
      bound = omega (arith, m.bound);
      made = rw (less, more, m.made, e, m.over) (zeros_last l _ _);
      over = rw (less, more, m.over, pow-suc) (div-div-eq-div-mul value (16 ^ (16 - suc l)) 16);
    }

pub made_all : (value left : ℕ) (ds : List ℕ) (rest : ℕ) → Made value left ds rest → left ≤ 0 → ds ≡ hex 16 value
made_all value zero ds rest m h = m.made
made_all value (suc l) ds rest m h = absurd (omega arith)

-- ---- decimal digits

pub decimal_none : (left n : ℕ) → left ≡ 0 → decimal left n ≡ []
unfolding decimal
decimal_none left n e = rw e

pub decimal_one : (left n : ℕ) → n < 10 → 0 < left → decimal left n ≡ digit n ∷ []
unfolding decimal
decimal_one zero n h l = absurd (omega arith)
decimal_one (suc k) n h l = simp (lt-ltb n 10 h)

pub decimal_more : (left n : ℕ) → 10 ≤ n → 0 < left → decimal left n ≡ decimal (left - 1) (n / 10) ++ (digit (n % 10) ∷ [])
unfolding decimal
decimal_more zero n h l = absurd (omega arith)
decimal_more (suc k) n h l = let less : suc k - 1 ≡ k = omega arith in rw less (simp (le-ltb n 10 h))

pub decimal_length : (left n : ℕ) → length (decimal left n) ≤ left
unfolding decimal
decimal_length zero n = omega arith
decimal_length (suc k) n =
    elim (dec_lt n 10) [
      | yes h ↦ simp (lt-ltb n 10 h) (omega arith)
      | no h ↦ simp (le-ltb n 10 (omega arith), length-append) (omega (arith, decimal_length k (n / 10)))
    ]
