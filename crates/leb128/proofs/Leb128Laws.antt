-- Encodings byte by byte, and what the readers make of them.
use Rattle.std.specs.Prelude.{ℕ, zero, suc, ◌+◌, ◌-◌, ◌*◌, ◌%◌, ◌^◌, ◌≤◌, ◌<◌, min, ◌≡◌, List, [], ◌∷◌, ◌++◌, true, length, take, get_or, ℤ, negsuc, leb, Option, Some, None, option_map}
use Rattle.std.proofs.Common.{pow-suc, mul_assoc, mul-le-mul_left, add-one, arith, ◌∙◌, ap, pow-add, take-suc, get_or-take, length-take-le, below_more}
use Rattle.std.proofs.Math.Nat.{pow-succ', pow-le-pow_right}
use Rattle.std.proofs.Math.Decide.{dec_lt}
use Rattle.std.proofs.Math.Path.{refl, sym}
use Rattle.std.proofs.Math.ListN.{get_or-eq_default}
use borrow.Author.Tests.{le-leb, lt-leb, lt-ltb, le-ltb, eq-eqb, ne_eqb}
use Rattle.util.specs.LittleEndian.{twos_complement}
use Rattle.util.proofs.LittleEndianLaws.{twos_positive, twos_negative}
use Rattle.leb128.specs.Leb128.{encoding, of_encoding, unsigned_number, word, uleb_of, uleb128, sign_bits, sleb_of, sleb128}
use Rattle.leb128.specs.Leb128Walk.{Running, Chunk}

-- ---- encodings

-- one byte more
one_more : (b : ℕ) (x : Option (List ℕ)) (e : List ℕ) → option_map (λ (f : List ℕ). b ∷ f) x ≡ Some e → (f : List ℕ) × ((x ≡ Some f) × (e ≡ b ∷ f))
one_more b None e h = let z : ◌≡◌ {A = ℕ} 0 1 = cc in absurd (omega arith)
one_more b (Some f) e h = (f, (refl, cc))

-- continuation bytes alone are not an encoding
pub goes_on_lem : (s : List ℕ) (i : ℕ) → ((k : ℕ) → k < i → 128 ≤ get_or s k 0) → (e : List ℕ) → encoding s ≡ Some e → i < length e
unfolding encoding
goes_on_lem [] i on e h = let z : ◌≡◌ {A = ℕ} 0 1 = cc in absurd (omega arith)
goes_on_lem (b ∷ s) i on e h =
    elim (dec_lt b 128) [
      | yes l ↦
          let g : Some (b ∷ []) ≡ Some e = rw (lt-ltb b 128 l) at h in
          let m : e ≡ b ∷ [] = cc in
          elim (dec_lt 0 i) [
            | yes p ↦ absurd (omega (arith, on 0 p))
            | no p ↦ rw m (omega arith)
          ]
      | no l ↦
          let g : option_map (λ (f : List ℕ). b ∷ f) (encoding s) ≡ Some e = rw (le-ltb b 128 (omega arith)) at h in
          let m = one_more b (encoding s) e g in
          let r : i - 1 < length m.0 = goes_on_lem s (i - 1) (λ k l. on (suc k) (omega arith)) m.0 m.1.0 in
          rw m.1.1 (omega arith)
    ]

-- an encoding is a part of the bytes
pub encoding_short : (s : List ℕ) (e : List ℕ) → encoding s ≡ Some e → length e ≤ length s
unfolding encoding
encoding_short [] e h = let z : ◌≡◌ {A = ℕ} 0 1 = cc in absurd (omega arith)
encoding_short (b ∷ s) e h =
    elim (dec_lt b 128) [
      | yes l ↦
          let g : Some (b ∷ []) ≡ Some e = rw (lt-ltb b 128 l) at h in
          let m : e ≡ b ∷ [] = cc in
          rw m (omega arith)
      | no l ↦
          let g : option_map (λ (f : List ℕ). b ∷ f) (encoding s) ≡ Some e = rw (le-ltb b 128 (omega arith)) at h in
          let m = one_more b (encoding s) e g in
          rw m.1.1 (omega (arith, encoding_short s m.0 m.1.0))
    ]

-- it ends at the first byte below 128
pub encoding_ends : (s : List ℕ) (i : ℕ) → ((k : ℕ) → k < i → 128 ≤ get_or s k 0) → i < length s → get_or s i 0 < 128 → encoding s ≡ Some (take (suc i) s)
unfolding encoding
encoding_ends [] i on h l = absurd (omega arith)
encoding_ends (b ∷ s) zero on h l = rw (lt-ltb b 128 l)
encoding_ends (b ∷ s) (suc i) on h l =
    rw (le-ltb b 128 (on 0 (omega arith)), encoding_ends s i (λ k m. on (suc k) (omega arith)) (omega arith) l)

-- ---- numbers

pub number_append : (xs ys : List ℕ) → unsigned_number (xs ++ ys) ≡ unsigned_number xs + 128 ^ length xs * unsigned_number ys
unfolding unsigned_number
number_append [] ys = omega arith
number_append (b ∷ xs) ys = rw (number_append xs ys, pow-succ' 128 (length xs), mul_assoc 128 (128 ^ length xs) (unsigned_number ys)) (omega arith)

pub number_small : (xs : List ℕ) → unsigned_number xs < 128 ^ length xs
unfolding unsigned_number
number_small [] = omega arith
number_small (b ∷ xs) = rw (pow-succ' 128 (length xs)) (omega (arith, number_small xs))

-- a byte more, at its weight
pub number_more : (s : List ℕ) (i : ℕ) → i < length s → unsigned_number (take (suc i) s) ≡ unsigned_number (take i s) + 128 ^ i * (get_or s i 0 % 128)
unfolding unsigned_number
number_more s i h =
    let l : length (take i s) ≡ i = length-take-le i s (omega arith) in
    rw (take-suc s i 0 h, number_append, l) (ap (λ (x : ℕ). unsigned_number (take i s) + 128 ^ i * x) (omega arith))

-- ---- the walk over the bytes

pub running_none : (s : List ℕ) → Running s 0 0
unfolding unsigned_number
running_none s = record { on = λ k h. absurd (omega arith); within = omega arith; low = refl }

pub small_weight : (i w : ℕ) → w ≡ 128 ^ i → i < 9 → w ≤ 72057594037927936
small_weight i w e h = let p : 128 ^ i ≤ 128 ^ 8 = pow-le-pow_right {n = 128} (omega arith) {i = i} {j = 8} (omega arith) in omega arith

pub small_product : (i w b : ℕ) → w ≡ 128 ^ i → i < 9 → b < 128 → w * b ≤ 9151314442816847872
small_product i w b e h l = let t : w * b ≤ w * 127 = mul-le-mul_left w (omega arith) in omega (arith, small_weight i w e h)

module _ (s : List ℕ) (i bits : ℕ) (r : Running s i bits) where
  pub running_small : bits < 128 ^ i
  running_small =
      let l : length (take i s) ≡ i = length-take-le i s r.within in
      let p : unsigned_number (take i s) < 128 ^ length (take i s) = number_small (take i s) in
      let q : unsigned_number (take i s) < 128 ^ i = rw l at p in
      omega (arith, r.low)

  -- one more payload fits 63 bits
  pub room : (w b : ℕ) → w ≡ 128 ^ i → i < 9 → b < 128 → bits + w * b < 9223372036854775808
  room w b e h l = omega (arith, running_small, small_weight i w e h, small_product i w b e h l)

  pub running_nine : 9 ≤ i → i ≤ 9 → Running s 9 bits
  running_nine g l = let e : i ≡ 9 = omega arith in rw e at r

  pub running_ends : length s ≤ i → (e : List ℕ) → encoding s ≡ Some e → 11 < length e
  running_ends h e f = absurd (omega (arith, goes_on_lem s i r.on e f, encoding_short s e f))

  module _ (h : i < length s) where
    number_next : (b : ℕ) → b ≡ get_or s i 0 → unsigned_number (take (suc i) s) ≡ bits + 128 ^ i * (b % 128)
    number_next b e = number_more s i h ∙ rw (r.low, e)

    pub running_more : (b w : ℕ) → b ≡ get_or s i 0 → 128 ≤ b → b < 256 → w ≡ 128 ^ i → Running s (i + 1) (bits + w * (b - 128))
    running_more b w e l u f = record {
      on = below_more _ i r.on (omega arith);
      within = omega arith;
      low = rw (f, add-one i, number_next b e) (ap (λ (x : ℕ). bits + 128 ^ i * x) (omega arith));
    }

    -- a last byte among the first nine
    pub running_last : (b w : ℕ) → b ≡ get_or s i 0 → b < 128 → w ≡ 128 ^ i → i < 9 → Chunk s (bits + w * b) (w * 128) b (i + 1)
    running_last b w e l f n =
        let q : unsigned_number (take (suc i) s) ≡ bits + w * b = number_next b e ∙ rw f (ap (λ (x : ℕ). bits + 128 ^ i * x) (omega arith)) in
        let t : w * b ≤ w * 127 = mul-le-mul_left w (omega arith) in
        let big : w ≤ 72057594037927936 = small_weight i w f n in
        record {
          is = rw (add-one i) (encoding_ends s i r.on h (omega arith));
          within = (omega arith, omega arith, omega arith);
          low = rw (add-one i, q) (omega (arith, running_small));
          above = rw (add-one i, pow-suc 128 i) (omega arith);
          ends = (e ∙ ap (λ (k : ℕ). get_or s k 0) (omega arith), l);
        }

-- the tenth byte and the eleventh
module _ (s : List ℕ) (bits b : ℕ) (r : Running s 9 bits) (h : 9 < length s) (e : b ≡ get_or s 9 0) where
  ten_low : word (take 10 s) ≡ bits + 9223372036854775808 * (b % 2)
  ten_low =
      let q : unsigned_number (take 10 s) ≡ bits + 9223372036854775808 * (b % 128) = number_next s 9 bits r h b e in
      let l : bits < 9223372036854775808 = running_small s 9 bits r in
      omega arith

  pub ten_last : b < 128 → Chunk s (bits + 9223372036854775808 * (b % 2)) 0 b 10
  ten_last l = record {
    is = encoding_ends s 9 r.on h (omega arith);
    within = (omega arith, omega arith, omega arith);
    low = sym ten_low;
    above = refl;
    ends = (e, l);
  }

  module _ (l : 128 ≤ b) where
    ten_on : (k : ℕ) → k < 10 → 128 ≤ get_or s k 0
    ten_on = below_more _ 9 r.on (omega arith)

    pub ten_ends : length s ≤ 10 → (f : List ℕ) → encoding s ≡ Some f → 11 < length f
    ten_ends m f g = absurd (omega (arith, goes_on_lem s 10 ten_on f g, encoding_short s f g))

    module _ (m : 10 < length s) (c : ℕ) (d : c ≡ get_or s 10 0) where
      pub eleven_last : c < 128 → Chunk s (bits + 9223372036854775808 * (b % 2)) 0 c 11
      eleven_last n =
          let q : unsigned_number (take 11 s) ≡ unsigned_number (take 10 s) + 1180591620717411303424 * (get_or s 10 0 % 128) = number_more s 10 m in
          record {
            is = encoding_ends s 10 ten_on m (omega arith);
            within = (omega arith, omega arith, omega arith);
            low = sym ten_low ∙ omega arith;
            above = refl;
            ends = (d, n);
          }

      pub eleven_on : 128 ≤ c → (f : List ℕ) → encoding s ≡ Some f → 11 < length f
      eleven_on n f g = goes_on_lem s 11 (below_more _ 10 ten_on (omega arith)) f g

-- ---- what the readers make of an encoding

-- they read nothing from a longer one
longer : {A : Type 0} (f : List ℕ → Option A) (s : List ℕ) → ((e : List ℕ) → 11 < length e → None ≡ f e) → ((e : List ℕ) → encoding s ≡ Some e → 11 < length e) → None ≡ of_encoding f (encoding s)
longer f s none_of h = go (encoding s) refl
  where
    go : (x : Option (List ℕ)) → encoding s ≡ x → None ≡ of_encoding f x
    go None e = refl
    go (Some e) g = none_of e (h e g)

pub uleb_longer : (s : List ℕ) → ((e : List ℕ) → encoding s ≡ Some e → 11 < length e) → None ≡ uleb128 s
unfolding uleb_of
uleb_longer s h = longer uleb_of s (λ e l. rw (lt-leb (length e) 11 l)) h

pub sleb_longer : (s : List ℕ) → ((e : List ℕ) → encoding s ≡ Some e → 11 < length e) → None ≡ sleb128 s
unfolding sleb_of
sleb_longer s h = longer sleb_of s (λ e l. rw (lt-leb (length e) 11 l)) h

any_default : (l : List ℕ) (i d : ℕ) → i < length l → get_or l i d ≡ get_or l i 0
any_default [] i d h = absurd (omega arith)
any_default (x ∷ l) zero d h = refl
any_default (x ∷ l) (suc i) d h = any_default l i d (omega arith)

-- seven bits to a byte
pub seven : (k : ℕ) → 2 ^ (7 * k) ≡ 128 ^ k
seven zero = refl
seven (suc k) = ap (λ (n : ℕ). 2 ^ n) (omega arith) ∙ pow-add 2 7 (7 * k) ∙ rw (seven k, pow-succ' 128 k)

pub half : (k : ℕ) → 2 ^ (7 * suc k - 1) ≡ 64 * 128 ^ k
half k = ap (λ (n : ℕ). 2 ^ n) (omega arith) ∙ pow-add 2 6 (7 * k) ∙ rw (seven k)

module _ (s : List ℕ) (bits weight last count : ℕ) (r : Chunk s bits weight last count) where
  chunk_length : length (take count s) ≡ count
  chunk_length = length-take-le count s (omega (arith, r.within))

  -- the eleventh byte, or what takes its place
  eleventh : (d : ℕ) → 10 < count → get_or (take count s) 10 d ≡ last
  eleventh d h =
      let ten : count - 1 ≡ 10 = omega (arith, r.within) in
      get_or-take count s 10 d h ∙ any_default s 10 d (omega (arith, r.within)) ∙ ap (λ (k : ℕ). get_or s k 0) (sym ten) ∙ sym r.ends.0

  no_eleventh : (d : ℕ) → count < 11 → get_or (take count s) 10 d ≡ d
  no_eleventh d h = get_or-eq_default (take count s) d {n = 10} (omega (arith, chunk_length))

  short : leb (length (take count s)) 11 ≡ true
  short = le-leb (length (take count s)) 11 (omega (arith, chunk_length, r.within))

  uleb_found : get_or (take count s) 10 0 ≡ 0 → Some (bits, count) ≡ uleb128 s
  unfolding uleb_of
  uleb_found e = rw (r.is, short, e, ← r.low, chunk_length)

  -- an eleventh byte, where there is one, is as it must be
  eleventh_is : (d : ℕ) → (count ≡ 11 → last ≡ d) → get_or (take count s) 10 d ≡ d
  eleventh_is d h =
      elim (dec_lt count 11) [ yes l ↦ no_eleventh d l | no l ↦ eleventh d (omega arith) ∙ h (omega (arith, r.within)) ]

  pub uleb_read : (count ≡ 11 → last ≡ 0) → Some (bits, count) ≡ uleb128 s
  uleb_read h = uleb_found (eleventh_is 0 h)

  -- so a number of up to ten bytes is read, and one of eleven whose last byte is 0
  pub uleb_short : (count ≡ 11 → ⊥) → Some (bits, count) ≡ uleb128 s
  uleb_short h = uleb_read (λ c. absurd (h c))

  pub uleb_eleven : count ≡ 11 → last ≡ 0 → Some (bits, 11) ≡ uleb128 s
  uleb_eleven c e = ap (λ (n : ℕ). Some (bits, n)) (sym c) ∙ uleb_read (λ f. e)

  pub uleb_refused : count ≡ 11 → (last ≡ 0 → ⊥) → None ≡ uleb128 s
  unfolding uleb_of
  uleb_refused c n = rw (r.is, short, eleventh 0 (omega arith), ne_eqb last 0 n)

  sleb_found : (z : ℤ) → get_or (take count s) 10 (sign_bits bits) ≡ sign_bits bits → z ≡ twos_complement (min 64 (7 * count)) bits → Some (z, count) ≡ sleb128 s
  unfolding sleb_of
  sleb_found z e f = rw (r.is, short, ← r.low, e, eq-eqb (sign_bits bits) (sign_bits bits) refl, chunk_length) (ap (λ (y : ℤ). Some (y, count)) f)

  pub sleb_unsigned : count ≡ 11 → (b : ℕ) → b ≡ sign_bits bits → (last ≡ b → ⊥) → None ≡ sleb128 s
  unfolding sleb_of
  sleb_unsigned c b f h = rw (r.is, short, ← r.low, eleventh (sign_bits bits) (omega arith), ne_eqb last (sign_bits bits) (λ e. h (e ∙ sym f)))

  -- up to nine bytes: the weight of the last one, and the bits below it
  module _ (h : count < 10) where
    abbrev k : ℕ
    k = count - 1

    top : 128 ^ k ≤ 72057594037927936
    top = small_weight k (128 ^ k) refl (omega arith)

    weight_is : weight ≡ 128 ^ k * 128
    weight_is =
        let c : count ≡ suc k = omega (arith, r.within) in
        let p : 128 ^ count ≡ 128 ^ k * 128 = ap (λ (n : ℕ). 128 ^ n) c ∙ pow-suc 128 k in
        omega (arith, top, r.above)

    below : unsigned_number (take k s) < 128 ^ k
    below =
        let l : length (take k s) ≡ k = length-take-le k s (omega (arith, r.within)) in
        let p : unsigned_number (take k s) < 128 ^ length (take k s) = number_small (take k s) in
        rw l at p

    bits_are : bits ≡ unsigned_number (take k s) + 128 ^ k * last
    bits_are =
        let c : count ≡ suc k = omega (arith, r.within) in
        let p : unsigned_number (take (suc k) s) ≡ unsigned_number (take k s) + 128 ^ k * (get_or s k 0 % 128) = number_more s k (omega (arith, r.within)) in
        let q : get_or s k 0 % 128 ≡ last = omega (arith, r.ends) in
        let m : 128 ^ k * last ≤ 128 ^ k * 127 = mul-le-mul_left (128 ^ k) (omega (arith, r.ends)) in
        let u : unsigned_number (take (suc k) s) ≡ unsigned_number (take k s) + 128 ^ k * last = p ∙ rw q in
        let v : word (take count s) ≡ word (take (suc k) s) = ap (λ (n : ℕ). word (take n s)) c in
        r.low ∙ v ∙ omega (arith, top, below)

    pub sign_room : (bits < weight) × ((weight ≤ 9223372036854775808) × (1 ≤ weight))
    sign_room =
        let m : 128 ^ k * last ≤ 128 ^ k * 127 = mul-le-mul_left (128 ^ k) (omega (arith, r.ends)) in
        (omega (arith, weight_is, bits_are, below), (omega (arith, weight_is, top), omega (arith, weight_is, below)))

    full : 2 ^ min 64 (7 * count) ≡ weight
    full = ap (λ (n : ℕ). 2 ^ n) (omega arith) ∙ seven (suc k) ∙ pow-suc 128 k ∙ sym weight_is

    halved : 2 ^ (min 64 (7 * count) - 1) ≡ 64 * 128 ^ k
    halved = ap (λ (n : ℕ). 2 ^ n) (omega (arith, r.within)) ∙ half k

    pub sleb_positive : (z : ℤ) → last < 64 → z ≡ twos_complement 64 bits → Some (z, count) ≡ sleb128 s
    sleb_positive z l e =
        let m : 128 ^ k * last ≤ 128 ^ k * 63 = mul-le-mul_left (128 ^ k) (omega arith) in
        let b : bits < 64 * 128 ^ k = omega (arith, bits_are, below) in
        sleb_found z (no_eleventh (sign_bits bits) (omega arith))
        (e ∙ twos_positive 64 bits (omega (arith, top)) ∙ sym (twos_positive (min 64 (7 * count)) bits (rw halved b)))

    pub sleb_negative : (z : ℤ) → 64 ≤ last → z ≡ twos_complement 64 (bits + (18446744073709551615 - weight + 1)) → Some (z, count) ≡ sleb128 s
    sleb_negative z l e =
        let m : 128 ^ k * 64 ≤ 128 ^ k * last = mul-le-mul_left (128 ^ k) l in
        let b : 64 * 128 ^ k ≤ bits = omega (arith, bits_are) in
        let f : bits < weight = sign_room.0 in
        sleb_found z (no_eleventh (sign_bits bits) (omega arith))
        (e
        ∙ twos_negative 64 (bits + (18446744073709551615 - weight + 1)) (omega (arith, sign_room)) (omega (arith, sign_room))
        ∙ ap negsuc (omega (arith, sign_room, full))
        ∙ sym (twos_negative (min 64 (7 * count)) bits (rw halved b) (rw full f)))

  -- ten bytes and eleven have all 64 bits
  pub sleb_kept : (z : ℤ) → (count ≡ 11 → last ≡ sign_bits bits) → (count < 10 → last < 64) → z ≡ twos_complement 64 bits → Some (z, count) ≡ sleb128 s
  sleb_kept z h p e =
      elim (dec_lt count 10) [
        | yes l ↦ sleb_positive l z (p l) e
        | no l ↦
            let m : min 64 (7 * count) ≡ 64 = omega arith in
            sleb_found z (eleventh_is (sign_bits bits) h) (rw m e)
      ]

  pub sleb_ten : (z : ℤ) → count ≡ 10 → z ≡ twos_complement 64 bits → Some (z, 10) ≡ sleb128 s
  sleb_ten z c e =
      ap (λ (n : ℕ). Some (z, n)) (sym c) ∙ sleb_kept z (λ d. absurd (omega arith)) (λ d. absurd (omega arith)) e

  module _ (g : 9 < count) (n : count ≡ 10 → ⊥) where
    eleven : count ≡ 11
    eleven = elim (dec_lt count 11) [ yes l ↦ absurd (n (omega arith)) | no l ↦ omega (arith, r.within) ]

    pub sleb_eleven : (z : ℤ) (b : ℕ) → b ≡ sign_bits bits → last ≡ b → z ≡ twos_complement 64 bits → Some (z, 11) ≡ sleb128 s
    sleb_eleven z b f e d =
        ap (λ (k : ℕ). Some (z, k)) (sym eleven) ∙ sleb_kept z (λ c. e ∙ f) (λ c. absurd (omega arith)) d

    pub sleb_refused : (b : ℕ) → b ≡ sign_bits bits → (last ≡ b → ⊥) → None ≡ sleb128 s
    sleb_refused b f h = sleb_unsigned eleven b f h
