-- What the readers make of the standard's encodings: a number below 2^64 is read back from up to ten bytes, even if it needs fewer.
use Rattle.std.specs.Prelude.{ℕ, zero, suc, ◌+◌, ◌-◌, ◌*◌, ◌/◌, ◌%◌, ◌^◌, ◌≤◌, ◌<◌, min, ◌≡◌, refl, List, [], ◌∷◌, ◌++◌, true, length, get_or, ℤ, pos, negsuc, leb, Some, None}
use Rattle.std.proofs.Common.{pow-suc, arith, sym, ◌∙◌, ap}
use Rattle.std.proofs.Math.Nat.{pow-le-pow_right, mod-eq_of_lt}
use Rattle.std.proofs.Math.Decide.{dec_lt}
use Rattle.std.proofs.Math.ListN.{get_or-eq_default}
use borrow.Author.Tests.{le-leb, lt-ltb, le-ltb, eq-eqb}
use Rattle.util.specs.LittleEndian.{twos_complement}
use Rattle.util.proofs.LittleEndianLaws.{twos_positive, twos_negative}
use Rattle.util.specs.Pointer.{modulo}
use Rattle.leb128.specs.Leb128.{encoding, unsigned_number, signed_number, word, leb_bytes, encoded_signed, uleb_of, uleb128, sign_bits, sleb_of, sleb128}
use Rattle.leb128.proofs.Leb128Laws.{number_small, seven, half}

-- ---- any encoding of up to ten bytes whose number fits 64 bits

module _ (e : List ℕ) (h : length e ≤ 10) where
  no_eleventh : (d : ℕ) → get_or e 10 d ≡ d
  no_eleventh d = get_or-eq_default e d {n = 10} h

  short : leb (length e) 11 ≡ true
  short = le-leb (length e) 11 (omega arith)

  pub uleb_exact : unsigned_number e < 2 ^ 64 → uleb_of e ≡ Some (unsigned_number e, length e)
  unfolding uleb_of
  uleb_exact l = rw (short, no_eleventh 0, mod-eq_of_lt l)

  sleb_is : sleb_of e ≡ Some (twos_complement (min 64 (7 * length e)) (word e), length e)
  unfolding sleb_of
  sleb_is = rw (short, no_eleventh (sign_bits (word e)), eq-eqb (sign_bits (word e)) (sign_bits (word e)) refl)

-- a signed number of 64 bits
abbrev pub Signed64 : ℤ → Type 0
Signed64 (pos n) = n < 2 ^ 63
Signed64 (negsuc n) = n < 2 ^ 63

-- 70 bits whose number is one of 64 bits
seventy : (u : ℕ) → u < 2 ^ 70 → Signed64 (twos_complement 70 u) → twos_complement 64 (u % 2 ^ 64) ≡ twos_complement 70 u
seventy u h f =
    elim (dec_lt u (2 ^ 69)) [
      | yes l ↦
          let e : twos_complement 70 u ≡ pos u = twos_positive 70 u l in
          let g : u < 2 ^ 63 = rw e at f in
          let m : u % 2 ^ 64 ≡ u = omega arith in
          rw (m, e) (twos_positive 64 u g)
      | no l ↦
          let e : twos_complement 70 u ≡ negsuc (2 ^ 70 - suc u) = twos_negative 70 u (omega arith) h in
          let g : 2 ^ 70 - suc u < 2 ^ 63 = rw e at f in
          twos_negative 64 (u % 2 ^ 64) (omega arith) (omega arith) ∙ ap negsuc (omega arith) ∙ sym e
    ]

pub sleb_exact : (e : List ℕ) → length e ≤ 10 → Signed64 (signed_number e) → sleb_of e ≡ Some (signed_number e, length e)
unfolding signed_number
sleb_exact e h f =
    let u : unsigned_number e < 128 ^ length e = number_small e in
    sleb_is e h
    ∙ ap (λ (z : ℤ). Some (z, length e))
    (elim (dec_lt (length e) 10) [
      | yes l ↦
          let p : 128 ^ length e ≤ 2 ^ 63 = nine (length e) l in
          let w : word e ≡ unsigned_number e = omega arith in
          let m : min 64 (7 * length e) ≡ 7 * length e = omega arith in
          rw (m, w)
      | no l ↦
          let t : length e ≡ 10 = omega arith in
          let v : unsigned_number e < 2 ^ 70 = rw t at u in
          let g : Signed64 (twos_complement 70 (unsigned_number e)) = rw t at f in
          rw t (seventy (unsigned_number e) v g)
    ])
  where
    nine : (n : ℕ) → n < 10 → 128 ^ n ≤ 2 ^ 63
    nine n l = pow-le-pow_right {n = 128} (omega arith) {i = n} {j = 9} (omega arith)

-- ---- the standard's encodings

encoded_length : (k n : ℕ) → length (leb_bytes k n) ≡ suc k
unfolding leb_bytes
encoded_length zero n = refl
encoded_length (suc k) n = ap suc (encoded_length k (n / 128))

encoding_encoded : (k n : ℕ) (rest : List ℕ) → encoding (leb_bytes k n ++ rest) ≡ Some (leb_bytes k n)
unfolding leb_bytes encoding
encoding_encoded zero n rest = rw (lt-ltb (n % 128) 128 (omega arith))
encoding_encoded (suc k) n rest = rw (le-ltb (128 + n % 128) 128 (omega arith), encoding_encoded k (n / 128) rest)

number_encoded : (k n : ℕ) → n < 128 ^ suc k → unsigned_number (leb_bytes k n) ≡ n
unfolding leb_bytes unsigned_number
number_encoded zero n h = omega arith
number_encoded (suc k) n h =
    let p : 128 ^ suc (suc k) ≡ 128 ^ suc k * 128 = pow-suc 128 (suc k) in
    rw (number_encoded k (n / 128) (omega arith)) (omega arith)

-- an unsigned number in up to ten bytes, with any bytes after them
pub uleb_encoded : (k n : ℕ) (rest : List ℕ) → k < 10 → n < 128 ^ suc k → n < 2 ^ 64 → uleb128 (leb_bytes k n ++ rest) ≡ Some (n, suc k)
uleb_encoded k n rest h w l =
    let e : unsigned_number (leb_bytes k n) ≡ n = number_encoded k n w in
    rw (encoding_encoded k n rest)
    (uleb_exact (leb_bytes k n) (omega (arith, encoded_length k n)) (omega arith) ∙ rw (e, encoded_length k n))

-- a signed one: `k` + 1 bytes have room for it
abbrev pub Room : ℕ → ℤ → Type 0
Room k (pos n) = n < 64 * 128 ^ k
Room k (negsuc n) = n < 64 * 128 ^ k

signed_encoded : (k : ℕ) (z : ℤ) → Room k z → signed_number (encoded_signed k z) ≡ z
unfolding signed_number encoded_signed
signed_encoded k (pos n) h =
    let p : 128 ^ suc k ≡ 128 ^ k * 128 = pow-suc 128 k in
    let m : n % 128 ^ suc k ≡ n = mod-eq_of_lt (omega arith) in
    rw (m, number_encoded k n (omega arith), encoded_length k n) (twos_positive (7 * suc k) n (rw (half k) h))
signed_encoded k (negsuc n) h =
    let p : 128 ^ suc k ≡ 128 ^ k * 128 = pow-suc 128 k in
    let m : n % 128 ^ suc k ≡ n = mod-eq_of_lt (omega arith) in
    rw (m, number_encoded k (128 ^ suc k - 1 - n) (omega arith), encoded_length k (128 ^ suc k - 1 - n))
    (twos_negative (7 * suc k) (128 ^ suc k - 1 - n) (rw (half k) (omega arith)) (rw (seven (suc k)) (omega arith))
    ∙ ap negsuc (omega (arith, seven (suc k))))

pub sleb_encoded : (k : ℕ) (z : ℤ) (rest : List ℕ) → k < 10 → Room k z → Signed64 z → sleb128 (encoded_signed k z ++ rest) ≡ Some (z, suc k)
unfolding encoded_signed
sleb_encoded k z rest h w l =
    let e : signed_number (leb_bytes k (modulo z (128 ^ suc k))) ≡ z = signed_encoded k z w in
    rw (encoding_encoded k (modulo z (128 ^ suc k)) rest)
    (sleb_exact (leb_bytes k (modulo z (128 ^ suc k))) (omega (arith, encoded_length k (modulo z (128 ^ suc k)))) (rw e l) ∙ rw (e, encoded_length k (modulo z (128 ^ suc k))))

-- ---- the standard's examples (its figures of unsigned and signed encodings)

unsigned_examples : (uleb128 (0x02 ∷ []) ≡ Some (2, 1))
    × (uleb128 (0x7f ∷ []) ≡ Some (127, 1))
    × (uleb128 (0x80 ∷ (0x01 ∷ [])) ≡ Some (128, 2))
    × (uleb128 (0x82 ∷ (0x01 ∷ [])) ≡ Some (130, 2))
    × (uleb128 (0xb9 ∷ (0x64 ∷ [])) ≡ Some (12857, 2))
unfolding encoding unsigned_number uleb_of
unsigned_examples = (refl, refl, refl, refl, refl)

signed_examples : (sleb128 (0x7e ∷ []) ≡ Some (negsuc 1, 1))
    × (sleb128 (0xff ∷ (0x00 ∷ [])) ≡ Some (pos 127, 2))
    × (sleb128 (0x81 ∷ (0x7f ∷ [])) ≡ Some (negsuc 126, 2))
    × (sleb128 (0x80 ∷ (0x7f ∷ [])) ≡ Some (negsuc 127, 2))
    × (sleb128 (0xff ∷ (0x7e ∷ [])) ≡ Some (negsuc 128, 2))
unfolding encoding unsigned_number sleb_of twos_complement
signed_examples = (refl, refl, refl, refl, refl)

-- ---- the smallest inputs on which darwinscope departs from its own comment (docs/DIFFERENCES.md)

-- 2^64 in ten bytes is read as 0, and 0 in twelve bytes is not read
two_to_64 : (unsigned_number (leb_bytes 9 (2 ^ 64)) ≡ 2 ^ 64) × (uleb128 (leb_bytes 9 (2 ^ 64)) ≡ Some (0, 10))
unfolding leb_bytes encoding unsigned_number uleb_of
two_to_64 = (refl, refl)

zero_in_twelve : (unsigned_number (leb_bytes 11 0) ≡ 0) × (uleb128 (leb_bytes 11 0) ≡ None)
unfolding leb_bytes encoding unsigned_number uleb_of
zero_in_twelve = (refl, refl)

-- 2^63 in ten bytes is read as -2^63, and 0 in twelve bytes is not read
two_to_63 : (signed_number (encoded_signed 9 (pos (2 ^ 63))) ≡ pos (2 ^ 63)) × (sleb128 (encoded_signed 9 (pos (2 ^ 63))) ≡ Some (negsuc (2 ^ 63 - 1), 10))
unfolding leb_bytes encoded_signed encoding unsigned_number signed_number sleb_of twos_complement
two_to_63 = (refl, refl)

signed_zero_in_twelve : (signed_number (encoded_signed 11 (pos 0)) ≡ pos 0) × (sleb128 (encoded_signed 11 (pos 0)) ≡ None)
unfolding leb_bytes encoded_signed encoding unsigned_number signed_number sleb_of twos_complement
signed_zero_in_twelve = (refl, refl)
