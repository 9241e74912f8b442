-- What the tests on a line and on a text say about their definitions. `i` is a walk's place in a list: its turns go from `i` to `i + 1`.
use Prim.Native.Nat.{ℕ, zero, suc, ◌+◌, ◌-◌, ◌*◌, ◌/◌, ◌%◌, ◌^◌, ◌≤◌, ◌<◌}
use Rattle.std.proofs.Common.{Bor, inl, inr, zero-add, add-one, sym, ◌∙◌, append_assoc, length-set, take-append-drop, length-take-le}
use Rattle.std.proofs.Math.Decide.{dec_le, dec_lt, ℕ_discrete}
use native.Mathlib.Omega.{arith}
use Rattle.std.specs.Slice.{IsGetRangeResult}
use Rattle.std.specs.List.{position_or_len, list_all as all_of}
use lib.Pointwise.{pointwise}
use Rattle.std.specs.Prelude.{◌≡◌, refl, unwrap_or, List, [], ◌∷◌, ◌++◌, true, false, cond, ◌&&◌, take, get_or, set, leb, ltb, eqb, Option, Some, None, option_map}
use Rattle.std.proofs.Math.Path.{ap}
use Rattle.std.proofs.Math.Bool.{and-false, and-eq-true_iff}
use Rattle.std.proofs.Math.ListN.{length, drop, length-drop, drop_of_length-le}
use Rattle.std.proofs.Math.Seq.{drop-cons, drop-drop, paste-suc, take-length, take_all}
use borrow.Author.Tests.{le-leb, lt-leb, lt-ltb, le-ltb, ltb-true, eq-eqb, ne_eqb, eqb-true}
use Rattle.test_lines.specs.Lines.{span, find_from, line_at_offset, after_line, field_of, first_of, equals, digit_of, all_digits, hex_value, hex_number, digit_pairs, hex_bytes, fitting, numbers_of_fields, list_numbers, list_count}
use Rattle.util.specs.Buffer.{overwritten}

span_most : (stop : ℕ) (s : List ℕ) → span stop s ≤ length s
unfolding span
span_most stop [] = omega arith
span_most stop (b ∷ s) =
    elim (ℕ_discrete b stop) [
      | yes e ↦ rw (eq-eqb b stop e) (omega arith)
      | no n ↦ rw (ne_eqb b stop n) (omega (arith, span_most stop s))
    ]

-- `position` of a byte, as std says it
position_span : (stop : ℕ) (s : List ℕ) → position_or_len (λ b. eqb b stop) s ≡ span stop s
unfolding span
position_span stop [] = refl
position_span stop (b ∷ s) =
    elim (ℕ_discrete b stop) [
      | yes e ↦ rw (eq-eqb b stop e)
      | no n ↦ rw (ne_eqb b stop n) (omega (arith, position_span stop s))
    ]

pub found_span : (stop : ℕ) (s : List ℕ) (o : Option ℕ) → o ≡ cond (ltb (position_or_len (λ b. eqb b stop) s) (length s)) (Some (position_or_len (λ b. eqb b stop) s)) None → unwrap_or o (length s) ≡ span stop s
found_span stop s o e =
    ap (λ (x : Option ℕ). unwrap_or x (length s)) e
    ∙ rw (position_span stop s) (elim (dec_lt (span stop s) (length s)) [
      | yes l ↦ rw (lt-ltb (span stop s) (length s) l)
      | no l ↦ rw (le-ltb (span stop s) (length s) (omega arith)) (omega (arith, span_most stop s))
    ])

-- the bytes from a place on, as `get` and `unwrap_or` give them
pub rest_got : (s : List ℕ) (at : ℕ) (o : Option (Bor (List ℕ))) (none : Bor (List ℕ)) → none.now ≡ [] → IsGetRangeResult s at (length s) o → (unwrap_or o none).now ≡ drop at s
rest_got s at (Some part) none e got = got.0.2 ∙ take_all (length s - at) (drop at s) (rw length-drop (omega arith))
rest_got s at None none e got =
    e ∙ sym (drop_of_length-le s {i = at} (elim got.0 [ inl l ↦ omega arith | inr l ↦ absurd (omega arith) ]))

module _ (s : List ℕ) (i stop : ℕ) where
  pub find_here : i < length s → get_or s i 0 ≡ stop → i ≡ find_from s i stop
  unfolding find_from span
  find_here h e = rw (drop-cons s i 0 h, eq-eqb (get_or s i 0) stop e) (omega arith)

  pub find_next : i < length s → (get_or s i 0 ≡ stop → ⊥) → find_from s i stop ≡ find_from s (i + 1) stop
  unfolding find_from span
  find_next h n = rw (add-one, drop-cons s i 0 h, ne_eqb (get_or s i 0) stop n) (omega arith)

  pub find_end : length s ≤ i → i ≡ find_from s i stop
  unfolding find_from span
  find_end h = rw (drop_of_length-le s {i = i} h) (omega arith)

  pub find_at : (n : ℕ) → n ≡ span stop (drop i s) → i + n ≡ find_from s i stop
  unfolding find_from
  find_at n e = ap (λ (k : ℕ). i + k) e

  -- what is found lies between the place and the end
  pub find_bounds : (e : ℕ) → e ≡ find_from s i stop → i ≤ length s → (i ≤ e) × (e ≤ length s)
  unfolding find_from
  find_bounds e f h = let m : span stop (drop i s) ≤ length s - i = rw length-drop at (span_most stop (drop i s)) in (omega arith, omega arith)

-- the line at a place, and the one after it
module _ (s : List ℕ) (at : ℕ) where
  pub line_past : length s < at → [] ≡ line_at_offset s at
  unfolding line_at_offset span
  line_past h = rw (drop_of_length-le s {i = at} (omega arith))

  pub line_here : (e : ℕ) → e ≡ find_from s at 10 → take (e - at) (drop at s) ≡ line_at_offset s at
  unfolding line_at_offset find_from
  line_here e f = let n : e - at ≡ span 10 (drop at s) = omega arith in rw n

  -- as `get` and `unwrap_or` give it
  pub line_got : (e : ℕ) (o : Option (Bor (List ℕ))) (none : Bor (List ℕ)) → e ≡ find_from s at 10 → none.now ≡ [] → IsGetRangeResult s at e o → (unwrap_or o none).now ≡ line_at_offset s at
  line_got e (Some part) none f n got = got.0.2 ∙ line_here e f
  line_got e None none f n got =
      elim (dec_le at (length s)) [
        | yes h ↦ let b = find_bounds s at 10 e f h in absurd (elim got.0 [ inl l ↦ omega (arith, b) | inr l ↦ omega (arith, b) ])
        | no h ↦ n ∙ line_past (omega arith)
      ]

  pub after_found : (e : ℕ) → e ≡ find_from s at 10 → e < length s → e + 1 ≡ after_line s at
  unfolding after_line
  after_found e f h = rw (← f, lt-ltb e (length s) h)

  pub after_last : (e : ℕ) → e ≡ find_from s at 10 → length s ≤ e → e ≡ after_line s at
  unfolding after_line
  after_last e f h = rw (← f, le-ltb e (length s) h)

  -- it starts further on
  pub after_more : (n : ℕ) → n ≡ after_line s at → at < length s → at < n
  after_more n e h = go (dec_lt (find_from s at 10) (length s))
    where
      go : Dec (find_from s at 10 < length s) → at < n
      go (yes l) = omega (arith, after_found (find_from s at 10) refl l, (find_bounds s at 10 (find_from s at 10) refl (omega arith)).0)
      go (no l) = omega (arith, after_last (find_from s at 10) refl (omega arith))

no_field : (n : ℕ) → [] ≡ field_of [] n
unfolding field_of span
no_field zero = refl
no_field (suc n) = no_field n

-- the fields from a place on, where `e` is the next space's place
module _ (s : List ℕ) (at e : ℕ) (found : e ≡ find_from s at 32) where
  pub field_next : (n : ℕ) → 0 < n → field_of (drop at s) n ≡ field_of (drop (e + 1) s) (n - 1)
  unfolding field_of find_from
  field_next zero h = absurd (omega arith)
  field_next (suc n) h =
      let less : suc n - 1 ≡ n = omega arith in
      let past : at + suc (span 32 (drop at s)) ≡ e + 1 = omega arith in
      rw (less, drop-drop, past)

  pub field_past : (n : ℕ) → 0 < n → length s ≤ e → [] ≡ field_of (drop at s) n
  field_past n h l = no_field (n - 1) ∙ rw (field_next n h, drop_of_length-le s {i = e + 1} (omega arith))

  pub field_here : (n : ℕ) → n ≡ 0 → take (e - at) (drop at s) ≡ field_of (drop at s) n
  unfolding field_of find_from
  field_here n h = let size : e - at ≡ span 32 (drop at s) = omega arith in rw (size, h)

module _ (s : List ℕ) (n : ℕ) where
  pub first_in : n ≤ length s → take n s ≡ first_of s n
  unfolding first_of
  first_in h = simp (le-leb n (length s) h)

  pub first_out : length s < n → [] ≡ first_of s n
  unfolding first_of
  first_out h = simp (lt-leb n (length s) h)

  -- as `get` and `unwrap_or` give them
  pub first_got : (o : Option (Bor (List ℕ))) (none : Bor (List ℕ)) → none.now ≡ [] → IsGetRangeResult s 0 n o → (unwrap_or o none).now ≡ first_of s n
  first_got None none e got = e ∙ first_out (elim got.0 [ inl l ↦ absurd (omega arith) | inr l ↦ l ])
  first_got (Some part) none e got = got.0.2 ∙ ap (λ (k : ℕ). take k s) (omega arith) ∙ first_in got.0.1

-- `equals` says whether two lists are equal
pub equals_sound : (a b : List ℕ) → equals a b ≡ true → a ≡ b
unfolding equals
equals_sound [] [] e = refl
equals_sound [] (y ∷ b) e = cc
equals_sound (x ∷ a) [] e = cc
equals_sound (x ∷ a) (y ∷ b) e =
    let both = (and-eq-true_iff (eqb x y) (equals a b)).0 e in
    rw (eqb-true x y both.0, equals_sound a b both.1)

pub equals_complete : (a : List ℕ) → equals a a ≡ true
unfolding equals
equals_complete [] = refl
equals_complete (x ∷ a) = rw (eq-eqb x x refl) (equals_complete a)

pub equals_length : (a b : List ℕ) → (length a ≡ length b → ⊥) → false ≡ equals a b
unfolding equals
equals_length [] [] n = absurd (n refl)
equals_length [] (y ∷ b) n = refl
equals_length (x ∷ a) [] n = refl
equals_length (x ∷ a) (y ∷ b) n = rw (← equals_length a b (λ e. n (ap suc e)), and-false)

module _ (a b : List ℕ) (i : ℕ) where
  pub equals_next : i < length a → i < length b → get_or a i 0 ≡ get_or b i 0 → equals (drop i a) (drop i b) ≡ equals (drop (i + 1) a) (drop (i + 1) b)
  unfolding equals
  equals_next h k e = rw (add-one, drop-cons a i 0 h, drop-cons b i 0 k, eq-eqb (get_or a i 0) (get_or b i 0) e)

  pub equals_differs : i < length a → i < length b → (get_or a i 0 ≡ get_or b i 0 → ⊥) → false ≡ equals (drop i a) (drop i b)
  unfolding equals
  equals_differs h k n = rw (drop-cons a i 0 h, drop-cons b i 0 k, ne_eqb (get_or a i 0) (get_or b i 0) n)

  pub equals_end : length a ≤ i → length b ≤ i → true ≡ equals (drop i a) (drop i b)
  unfolding equals
  equals_end h k = rw (drop_of_length-le a {i = i} h, drop_of_length-le b {i = i} k)

-- `==` of two slices, as std says it
pub equals_by : (a b : List ℕ) → pointwise eqb a b ≡ equals a b
unfolding equals
equals_by [] [] = refl
equals_by [] (y ∷ b) = refl
equals_by (x ∷ a) [] = refl
equals_by (x ∷ a) (y ∷ b) = rw (equals_by a b)

-- a byte that is not between two others
outside : (l h b : ℕ) → (l ≤ b → b ≤ h → ⊥) → (leb l b && leb b h) ≡ false
outside l h b n =
    elim (dec_le l b) [
      | yes f ↦ elim (dec_le b h) [ yes g ↦ absurd (n f g) | no g ↦ rw (lt-leb b h (omega arith), and-false) ]
      | no f ↦ rw (lt-leb l b (omega arith))
    ]

module _ (b : ℕ) where
  pub digit_decimal : 48 ≤ b → b ≤ 57 → b - 48 ≡ digit_of b
  unfolding digit_of
  digit_decimal l h = simp (le-leb 48 b l, le-leb b 57 h)

  pub digit_letter : 97 ≤ b → b ≤ 102 → b - 97 + 10 ≡ digit_of b
  unfolding digit_of
  digit_letter l h = simp (outside 48 57 b (λ f g. omega arith), le-leb 97 b l, le-leb b 102 h) (omega arith)

  pub digit_other : (48 ≤ b → b ≤ 57 → ⊥) → (97 ≤ b → b ≤ 102 → ⊥) → 16 ≡ digit_of b
  unfolding digit_of
  digit_other n m = simp (outside 48 57 b n, outside 97 102 b m)

-- `all` of the digits, as std says it
pub digits_by : (s : List ℕ) → all_of (λ b. ltb (digit_of b) 16) s ≡ all_digits s
unfolding all_digits
digits_by [] = refl
digits_by (b ∷ s) = rw (digits_by s)

digits_each : (s : List ℕ) (i : ℕ) → all_digits s ≡ true → i < length s → digit_of (get_or s i 0) < 16
unfolding all_digits
digits_each [] i e h = absurd (omega arith)
digits_each (b ∷ s) zero e h = ltb-true _ _ ((and-eq-true_iff (ltb (digit_of b) 16) (all_digits s)).0 e).0
digits_each (b ∷ s) (suc i) e h = digits_each s i ((and-eq-true_iff (ltb (digit_of b) 16) (all_digits s)).0 e).1 (omega arith)

-- more digits do not make a number smaller
value_least : (n : ℕ) (s : List ℕ) → n ≤ hex_value n s
unfolding hex_value
value_least n [] = omega arith
value_least n (b ∷ s) = omega (arith, value_least (n * 16 + digit_of b) s)

module _ (s : List ℕ) (i : ℕ) where
  pub digits_next : i < length s → digit_of (get_or s i 0) < 16 → all_digits (drop i s) ≡ all_digits (drop (i + 1) s)
  unfolding all_digits
  digits_next h d = rw (add-one, drop-cons s i 0 h, lt-ltb (digit_of (get_or s i 0)) 16 d)

  pub digits_other : i < length s → 16 ≤ digit_of (get_or s i 0) → false ≡ all_digits (drop i s)
  unfolding all_digits
  digits_other h d = rw (drop-cons s i 0 h, le-ltb (digit_of (get_or s i 0)) 16 d)

  pub digits_end : length s ≤ i → true ≡ all_digits (drop i s)
  unfolding all_digits
  digits_end h = rw (drop_of_length-le s {i = i} h)

  pub value_end : (v : ℕ) → length s ≤ i → hex_value v (drop i s) ≡ v
  unfolding hex_value
  value_end v h = rw (drop_of_length-le s {i = i} h)

  module _ (v d : ℕ) (e : d ≡ digit_of (get_or s i 0)) (h : i < length s) where
    pub value_next : hex_value v (drop i s) ≡ hex_value (v * 16 + d) (drop (i + 1) s)
    unfolding hex_value
    value_next = rw (add-one, drop-cons s i 0 h, e)

    pub value_large : (w : ℕ) → w ≡ hex_value v (drop i s) → v * 16 + d ≤ w
    value_large w f = omega (arith, value_next, value_least (v * 16 + d) (drop (i + 1) s))

module _ (s : List ℕ) where
  pub number_empty : length s ≡ 0 → None ≡ hex_number s
  unfolding hex_number
  number_empty h = simp (le-ltb 0 (length s) (omega arith))

  pub number_other : false ≡ all_digits s → None ≡ hex_number s
  unfolding hex_number
  number_other h = rw (← h, and-false)

  pub number_large : 2 ^ 64 ≤ hex_value 0 s → None ≡ hex_number s
  unfolding hex_number
  number_large h = rw (le-ltb (hex_value 0 s) (2 ^ 64) h, and-false)

  pub number_read : (v : ℕ) → 0 < length s → true ≡ all_digits s → hex_value 0 s ≡ v → v < 2 ^ 64 → Some v ≡ hex_number s
  unfolding hex_number
  number_read v h d e l = rw (lt-ltb 0 (length s) h, ← d, e, lt-ltb v (2 ^ 64) l)

pub pairs_length : (s : List ℕ) → length (digit_pairs s) ≡ length s / 2
unfolding digit_pairs
pairs_length [] = refl
pairs_length (h ∷ []) = refl
pairs_length (h ∷ (l ∷ s)) = omega (arith, pairs_length s)

pub pairs_each : (s : List ℕ) (n : ℕ) → n < length s / 2 → get_or (digit_pairs s) n 0 ≡ digit_of (get_or s (2 * n) 0) * 16 + digit_of (get_or s (2 * n + 1) 0)
unfolding digit_pairs
pairs_each [] n h = absurd (omega arith)
pairs_each (x ∷ []) n h = absurd (omega arith)
pairs_each (x ∷ (y ∷ s)) zero h = refl
pairs_each (x ∷ (y ∷ s)) (suc n) h =
    let two : 2 * suc n ≡ suc (suc (2 * n)) = omega arith in
    let three : 2 * suc n + 1 ≡ suc (suc (2 * n + 1)) = omega arith in
    rw (three, two) (pairs_each s n (omega arith))

pub pair_byte : (s : List ℕ) (n : ℕ) → all_digits s ≡ true → n < length s / 2 → digit_of (get_or s (2 * n) 0) * 16 + digit_of (get_or s (2 * n + 1) 0) < 256
pair_byte s n e h = omega (arith, digits_each s (2 * n) e (omega arith), digits_each s (2 * n + 1) e (omega arith))

-- the first `n` pairs are written to the buffer `out`
module _ (s out : List ℕ) (n : ℕ) where
  pub pairs_next : (b : List ℕ) (v : ℕ) → b ≡ take n (digit_pairs s) ++ drop n out → v ≡ digit_of (get_or s (2 * n) 0) * 16 + digit_of (get_or s (2 * n + 1) 0) → n < length s / 2 → n < length out
      → set b n v ≡ take (n + 1) (digit_pairs s) ++ drop (n + 1) out
  pairs_next b v e w h k =
      let size : n < length (digit_pairs s) = omega (arith, pairs_length s) in
      let turn : set (take n (digit_pairs s) ++ drop n out) n (get_or (digit_pairs s) n 0) ≡ take (suc n) (digit_pairs s) ++ drop (suc n) out =
      simp zero-add at (paste-suc out 0 (digit_pairs s) n 0 (omega arith) size) in
      rw (e, w, ← pairs_each s n h, add-one) turn

  pub pairs_written : n ≡ length s / 2 → take n (digit_pairs s) ++ drop n out ≡ digit_pairs s ++ drop (length (digit_pairs s)) out
  pairs_written e = let size : n ≡ length (digit_pairs s) = e ∙ sym (pairs_length s) in rw (size, take-length)

module _ (s : List ℕ) where
  pub bytes_dash : true ≡ equals s (45 ∷ []) → Some [] ≡ hex_bytes s
  unfolding hex_bytes
  bytes_dash e = rw (← e)

  module _ (n : false ≡ equals s (45 ∷ [])) where
    pub bytes_empty : length s ≡ 0 → None ≡ hex_bytes s
    unfolding hex_bytes
    bytes_empty h = rw (← n, le-ltb 0 (length s) (omega arith))

    pub bytes_odd : (length s % 2 ≡ 0 → ⊥) → None ≡ hex_bytes s
    unfolding hex_bytes
    bytes_odd h = rw (← n, ne_eqb (length s % 2) 0 h, and-false)

    pub bytes_other : false ≡ all_digits s → None ≡ hex_bytes s
    unfolding hex_bytes
    bytes_other h = rw (← n, ← h, and-false)

    pub bytes_read_lem : 0 < length s → length s % 2 ≡ 0 → true ≡ all_digits s → Some (digit_pairs s) ≡ hex_bytes s
    unfolding hex_bytes
    bytes_read_lem l e h = rw (← n, ← h, lt-ltb 0 (length s) l, eq-eqb (length s % 2) 0 e)

module _ (out : List ℕ) (x : Option (List ℕ)) where
  pub fitting_none : None ≡ x → None ≡ fitting out x
  unfolding fitting
  fitting_none e = ap (fitting out) e

  module _ (t : List ℕ) (e : Some t ≡ x) where
    pub fitting_all : length t ≤ length out → Some t ≡ fitting out x
    unfolding fitting
    fitting_all h = simp (le-leb (length t) (length out) h) at (ap (fitting out) e)

    pub fitting_short : length out < length t → None ≡ fitting out x
    unfolding fitting
    fitting_short h = simp (lt-leb (length t) (length out) h) at (ap (fitting out) e)

-- what was written to a buffer, as its count and its bytes
pub answered : (out : List ℕ) (x y : Option (List ℕ)) → x ≡ y → (option_map length x ≡ option_map length y) × (overwritten out x ≡ overwritten out y)
answered out x y e = (ap (option_map length) e, ap (overwritten out) e)

-- ---- the numbers of fields

-- a field past the line's end is empty
field_beyond : (s : List ℕ) (n : ℕ) → length s < n → [] ≡ field_of s n
unfolding field_of
field_beyond s zero h = absurd (omega arith)
field_beyond [] (suc n) h = no_field (suc n)
field_beyond (b ∷ s) (suc n) h = field_beyond (drop (suc (span 32 (b ∷ s))) (b ∷ s)) n (rw length-drop (omega arith))

-- so a field that is a number is not past the end
pub number_within : (s : List ℕ) (n v : ℕ) → Some v ≡ hex_number (field_of s n) → n ≤ length s
number_within s n v e = go (dec_le n (length s))
  where
    go : Dec (n ≤ length s) → n ≤ length s
    go (yes h) = h
    go (no h) =
        let f : ◌≡◌ {A = Option ℕ} None (Some v) = number_empty [] refl ∙ ap hex_number (field_beyond s n (omega arith)) ∙ sym e in
        let z : ◌≡◌ {A = ℕ} 0 1 = cc in
        absurd (omega arith)

-- the numbers from a field on, if it is known what the field is
numbers_by_lem : (s : List ℕ) (at step m : ℕ) (x : Option ℕ) → x ≡ hex_number (field_of s at)
    → numbers_of_fields s at step (suc m) ≡ (elim x as (λ _. List ℕ) [ None ↦ [] | Some v ↦ v ∷ numbers_of_fields s (at + step) step m ])
unfolding numbers_of_fields
numbers_by_lem s at step m x e = ap (λ (y : Option ℕ). elim y as (λ _. List ℕ) [ None ↦ [] | Some v ↦ v ∷ numbers_of_fields s (at + step) step m ]) (sym e)

-- `n` of the numbers `l` are written to the list `out₀`, and field `at` is read next
pub record Reading (s : List ℕ) (step : ℕ) (l out₀ out : List ℕ) (at n : ℕ) : Type 0 where
  pub given : n ≤ length l
  pub fits : n ≤ length out₀
  pub long : length out ≡ length out₀
  pub rest : drop n l ≡ numbers_of_fields s at step (length out₀ - n)
  pub written : out ≡ take n l ++ drop n out₀

pub reading_starts : (s : List ℕ) (from step : ℕ) (out : List ℕ) → Reading s step (numbers_of_fields s from step (length out)) out out from 0
reading_starts s from step out =
    record { given = omega arith; fits = omega arith; long = refl; rest = ap (numbers_of_fields s from step) (omega arith); written = refl }

module _ (s : List ℕ) (step : ℕ) (l out₀ out : List ℕ) (at n : ℕ) (g : Reading s step l out₀ out at n) where
  all_given : drop n l ≡ [] → n ≡ length l
  all_given e = omega (arith, g.given, rw length-drop at (ap length e))

  all_written : n ≡ length l → out ≡ l ++ drop (length l) out₀
  all_written e = g.written ∙ rw (e, take-length)

  pub reading_ends : length out₀ ≤ n → (true ≡ eqb (length l) (length out₀)) × (out ≡ l ++ drop (length l) out₀)
  unfolding numbers_of_fields
  reading_ends h =
      let z : length out₀ - n ≡ 0 = omega arith in
      let e : n ≡ length l = all_given (g.rest ∙ rw z) in
      (sym (eq-eqb (length l) (length out₀) (omega (arith, g.fits))), all_written e)

  module _ (h : n < length out₀) where
    split : length out₀ - n ≡ suc (length out₀ - (n + 1))
    split = omega arith

    pub reading_stops : None ≡ hex_number (field_of s at) → (false ≡ eqb (length l) (length out₀)) × (out ≡ l ++ drop (length l) out₀)
    reading_stops f =
        let e : n ≡ length l = all_given (g.rest ∙ rw split (numbers_by_lem s at step (length out₀ - (n + 1)) None f)) in
        (sym (ne_eqb (length l) (length out₀) (λ (q : length l ≡ length out₀). omega arith)), all_written e)

    pub reading_next : (v : ℕ) → Some v ≡ hex_number (field_of s at) → Reading s step l out₀ (set out n v) (at + step) (n + 1)
    reading_next v f =
        let r : drop n l ≡ v ∷ numbers_of_fields s (at + step) step (length out₀ - (n + 1)) = g.rest ∙ rw split (numbers_by_lem s at step (length out₀ - (n + 1)) (Some v) f) in
        let size : n < length l = omega (arith, rw length-drop at (ap length r)) in
        let cons : get_or l n 0 ∷ drop (suc n) l ≡ v ∷ numbers_of_fields s (at + step) step (length out₀ - (n + 1)) = sym (drop-cons l n 0 size) ∙ r in
        let one : n + 1 ≡ suc n = omega arith in
        let value : v ≡ get_or l n 0 = cc in
        let left : drop (suc n) l ≡ numbers_of_fields s (at + step) step (length out₀ - (n + 1)) = cc in
        let turn : set (take n l ++ drop n out₀) n (get_or l n 0) ≡ take (suc n) l ++ drop (suc n) out₀ = simp zero-add at (paste-suc out₀ 0 l n 0 (omega arith) size) in
        record {
          given = omega arith;
          fits = omega arith;
          long = simp length-set g.long;
          rest = ap (λ (k : ℕ). drop k l) one ∙ left;
          written = rw (g.written, value, add-one) turn;
        }

-- ---- lists

numbers_most : (s : List ℕ) (at step n : ℕ) → length (numbers_of_fields s at step n) ≤ n
unfolding numbers_of_fields
numbers_most s at step zero = omega arith
numbers_most s at step (suc n) = go (hex_number (field_of s at)) (numbers_most s (at + step) step n)
  where
    go : (x : Option ℕ) → length (numbers_of_fields s (at + step) step n) ≤ n
        → length {A = ℕ} (elim x as (λ _. List ℕ) [ None ↦ [] | Some v ↦ v ∷ numbers_of_fields s (at + step) step n ]) ≤ suc n
    go None h = omega arith
    go (Some v) h = omega arith

-- what follows `k` elements of the first `n`, and what follows those
part_rest : (k n : ℕ) (l : List ℕ) → k ≤ n → drop k (take n l) ++ drop n l ≡ drop k l
part_rest zero n l h = take-append-drop n l
part_rest (suc k) zero l h = absurd (omega arith)
part_rest (suc k) (suc n) [] h = refl
part_rest (suc k) (suc n) (x ∷ l) h = part_rest k n l (omega arith)

module _ (s : List ℕ) (from : ℕ) (out : List ℕ) where
  abbrev Listed : Option ℕ → List ℕ → Type 0
  Listed x out' = (x ≡ list_count s from (length out)) × (out' ≡ list_numbers s from (length out) ++ drop (length (list_numbers s from (length out))) out)

  -- by the case of the field of the count
  abbrev count_by : Option ℕ → Option ℕ
  count_by x =
      elim x as (λ _. Option ℕ) [
        | None ↦ None
        | Some n ↦ cond (leb n (length out) && eqb (length (numbers_of_fields s (from + 1) 1 n)) n) (Some n) None
      ]

  abbrev numbers_by : Option ℕ → List ℕ
  numbers_by x = elim x as (λ _. List ℕ) [ None ↦ [] | Some n ↦ cond (leb n (length out)) (numbers_of_fields s (from + 1) 1 n) [] ]

  listed_by : (x y : Option ℕ) (out' : List ℕ) → x ≡ hex_number (field_of s from) → y ≡ count_by x
      → out' ≡ numbers_by x ++ drop (length (numbers_by x)) out → Listed y out'
  unfolding list_count list_numbers
  listed_by x y out' e ey eo = (ey ∙ ap count_by e, eo ∙ ap (λ (x : Option ℕ). numbers_by x ++ drop (length (numbers_by x)) out) e)

  pub list_none : None ≡ hex_number (field_of s from) → Listed None out
  list_none e = listed_by None None out e refl refl

  module _ (n : ℕ) (e : Some n ≡ hex_number (field_of s from)) where
    pub list_long : length out < n → Listed None out
    list_long h = listed_by (Some n) None out e (simp (lt-leb n (length out) h)) (simp (lt-leb n (length out) h))

    module _ (h : n ≤ length out) (b l : List ℕ) (el : l ≡ numbers_of_fields s (from + 1) 1 (length (take n out))) (eb : b ≡ l ++ drop (length l) (take n out)) where
      pub part_long : n ≡ length (take n out)
      part_long = sym (length-take-le n out h)

      few : length l ≤ n
      few = omega (arith, numbers_most s (from + 1) 1 (length (take n out)), part_long, ap length el)

      whole : b ++ drop n out ≡ l ++ drop (length l) out
      whole = rw (eb, append_assoc l (drop (length l) (take n out)) (drop n out), part_rest (length l) n out few)

      is_list : l ≡ numbers_of_fields s (from + 1) 1 n
      is_list = el ∙ ap (numbers_of_fields s (from + 1) 1) (sym part_long)

      pub list_all : true ≡ eqb (length l) (length (take n out)) → Listed (Some n) (b ++ drop n out)
      list_all t = listed_by (Some n) (Some n) _ e (simp (le-leb n (length out) h) (rw (← is_list, part_long) (rw (← t)))) (simp (le-leb n (length out) h) (rw (← is_list) whole))

      pub list_part : false ≡ eqb (length l) (length (take n out)) → Listed None (b ++ drop n out)
      list_part t = listed_by (Some n) None _ e (simp (le-leb n (length out) h) (rw (← is_list, part_long) (rw (← t)))) (simp (le-leb n (length out) h) (rw (← is_list) whole))
