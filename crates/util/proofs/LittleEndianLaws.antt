-- One law for every width: what reading `n` bytes one by one and adding them up gives.
use Rattle.std.specs.Prelude.{◌≡◌, ℕ, zero, suc, ◌+◌, ◌-◌, ◌*◌, ◌^◌, ◌<◌, ◌≤◌, List, [], ◌∷◌, ◌++◌, length, take, drop, ℤ, pos, negsuc, ◌-ℤ◌, slice_index, slice_range, refl, Option, Some, None, option_map, unwrap_or}
use Rattle.std.proofs.Common.{add-suc, add-zero, mul_assoc, ◌∙◌, length-take, drop-cons, drop-drop, take_all}
use Rattle.std.proofs.Math.Nat.{pow-succ'}
use Rattle.std.proofs.Math.Decide.{dec_le}
use native.Mathlib.Omega.{arith}
use Rattle.std.proofs.Math.Path.{sym, ap}
use Rattle.std.proofs.Math.ListN.{length-drop}
use Rattle.std.proofs.Math.Seq.{take-add, length-take-le}
use borrow.Author.Tests.{le-leb, lt-leb, lt-ltb, le-ltb}
use Rattle.util.specs.LittleEndian.{little_endian, little_at, bytes_at, signed_at, twos_complement, unsigned_in, signed_in}

-- the sum of `n` bytes from `off + i` on, each at its weight
abbrev pub sum_from : List ℕ → ℕ → ℕ → ℕ → ℕ
sum_from s off i zero = 0
sum_from s off i (suc n) = slice_index s (off + i) + 256 * sum_from s off (suc i) n

pub little_sum : (n : ℕ) (s : List ℕ) (off i : ℕ) → off + i + n ≤ length s → little_endian (take n (drop (off + i) s)) ≡ sum_from s off i n
unfolding little_endian
little_sum zero s off i h = refl
little_sum (suc n) s off i h =
    let here : off + i < length s = omega arith in
    rw (drop-cons s (off + i) 0)
    (ap (λ (z : ℕ). slice_index s (off + i) + 256 * z)
    (ap (λ (k : ℕ). little_endian (take n (drop k s))) (sym (add-suc off i)) ∙ little_sum n s off (suc i) (omega arith)))

-- the number of two runs of bytes, one after the other
pub little_append : (xs ys : List ℕ) → little_endian (xs ++ ys) ≡ little_endian xs + 256 ^ length xs * little_endian ys
unfolding little_endian
little_append [] ys = omega arith
little_append (b ∷ xs) ys = rw (little_append xs ys, pow-succ' 256 (length xs), mul_assoc 256 (256 ^ length xs) (little_endian ys)) (omega arith)

-- what the bytes at an offset mean, for any reading `f` of them
module _ (f : List ℕ → ℕ) (n : ℕ) (s : List ℕ) (off : ℕ) where
  pub bytes_found : (v : ℕ) → off + n ≤ length s → v ≡ f (take n (drop off s)) → Some v ≡ option_map f (bytes_at n s off)
  unfolding bytes_at
  bytes_found v h e = simp (le-leb _ _ h) (ap Some e)

  pub bytes_nothing : length s < off + n → None ≡ option_map f (bytes_at n s off)
  unfolding bytes_at
  bytes_nothing h = simp (lt-leb _ _ h)

  -- bytes that were read lie within
  pub bytes_within : (v : ℕ) → Some v ≡ option_map f (bytes_at n s off) → off + n ≤ length s
  bytes_within v e =
      elim (dec_le (off + n) (length s)) [
        | yes h ↦ h
        | no h ↦
            let g : ◌≡◌ {A = Option ℕ} (Some v) None = e ∙ sym (bytes_nothing (omega arith)) in
            let z : ◌≡◌ {A = ℕ} 0 1 = cc in
            absurd (omega arith)
      ]

  -- and bytes that were not run past the end
  pub bytes_beyond : None ≡ option_map f (bytes_at n s off) → length s < off + n
  bytes_beyond e =
      elim (dec_le (off + n) (length s)) [
        | yes h ↦
            let g : ◌≡◌ {A = Option ℕ} None (Some (f (take n (drop off s)))) = e ∙ sym (bytes_found _ h refl) in
            let z : ◌≡◌ {A = ℕ} 0 1 = cc in
            absurd (omega arith)
        | no h ↦ omega arith
      ]

  pub bytes_value : (v : ℕ) → Some v ≡ option_map f (bytes_at n s off) → v ≡ f (take n (drop off s))
  bytes_value v e =
      let g : Some v ≡ Some (f (take n (drop off s))) = e ∙ sym (bytes_found _ (bytes_within v e) refl) in
      cc

-- bytes that were read as an array
module _ (n : ℕ) (s : List ℕ) (off : ℕ) where
  pub none_past : length s < off → None ≡ bytes_at n s off
  unfolding bytes_at
  none_past h = simp (lt-leb (off + n) (length s) (omega arith))

  pub none_short : (rest : List ℕ) → length rest + off ≡ length s → length rest < n → None ≡ bytes_at n s off
  unfolding bytes_at
  none_short rest l h = simp (lt-leb (off + n) (length s) (omega arith))

  pub array_found : (rest bs : List ℕ) → rest ≡ slice_range s off (length s) → bs ≡ slice_range rest 0 n → length rest + off ≡ length s → n ≤ length rest → Some bs ≡ bytes_at n s off
  unfolding bytes_at
  array_found rest bs e f l h =
      let all : take (length s - off) (drop off s) ≡ drop off s = take_all (length s - off) (drop off s) (simp length-drop (omega arith)) in
      let first : slice_range rest 0 n ≡ take n rest = ap (λ (k : ℕ). take k rest) (omega arith) in
      simp (le-leb (off + n) (length s) (omega arith)) (ap Some (f ∙ first ∙ ap (take n) (e ∙ all)))

  array_is : (bs : List ℕ) → Some bs ≡ bytes_at n s off → (off + n ≤ length s) × (bs ≡ take n (drop off s))
  unfolding bytes_at
  array_is bs e =
      elim (dec_le (off + n) (length s)) [
        | yes h ↦
            let g : Some bs ≡ Some (take n (drop off s)) = e ∙ simp (le-leb (off + n) (length s) h) in
            (h, cc)
        | no h ↦
            let g : ◌≡◌ {A = Option (List ℕ)} (Some bs) None = e ∙ simp (lt-leb (off + n) (length s) (omega arith)) in
            let z : ◌≡◌ {A = ℕ} 0 1 = cc in
            absurd (omega arith)
      ]

  pub array_length : (bs : List ℕ) → Some bs ≡ bytes_at n s off → length bs ≡ n
  array_length bs e =
      let a = array_is bs e in
      ap length a.1 ∙ length-take-le n (drop off s) (simp length-drop (omega (arith, a.0)))

  pub little_read : (bs : List ℕ) (v : ℕ) → Some bs ≡ bytes_at n s off → v ≡ sum_from bs 0 0 n → Some v ≡ little_at n s off
  unfolding little_at
  little_read bs v e f =
      let l : length bs ≡ n = array_length bs e in
      let all : take n (drop (0 + 0) bs) ≡ bs = take_all n bs (omega arith) in
      ap Some (f ∙ sym (little_sum n bs 0 0 (omega arith)) ∙ ap little_endian all) ∙ ap (option_map little_endian) e

  pub little_unread : None ≡ bytes_at n s off → None ≡ little_at n s off
  unfolding little_at
  little_unread e = ap (option_map little_endian) e

module _ (n : ℕ) (s : List ℕ) (off : ℕ) where
  pub little_found : (v : ℕ) → off + n ≤ length s → v ≡ sum_from s off 0 n → Some v ≡ little_at n s off
  unfolding little_at
  little_found v h e =
      bytes_found little_endian n s off v h (e ∙ sym (little_sum n s off 0 (omega arith)) ∙ ap (λ (k : ℕ). little_endian (take n (drop k s))) (add-zero off))

  pub little_nothing : length s < off + n → None ≡ little_at n s off
  unfolding little_at
  little_nothing h = bytes_nothing little_endian n s off h

  pub little_within : (v : ℕ) → Some v ≡ little_at n s off → off + n ≤ length s
  unfolding little_at
  little_within v e = bytes_within little_endian n s off v e

  pub little_beyond : None ≡ little_at n s off → length s < off + n
  unfolding little_at
  little_beyond e = bytes_beyond little_endian n s off e

  pub little_value : (v : ℕ) → Some v ≡ little_at n s off → v ≡ little_endian (take n (drop off s))
  unfolding little_at
  little_value v e = bytes_value little_endian n s off v e

  -- the same bytes, read as signed
  pub signed_found : (v : ℕ) (z : ℤ) → Some v ≡ little_at n s off → z ≡ twos_complement (8 * n) v → Some z ≡ signed_at n s off
  unfolding signed_at
  signed_found v z e t = ap Some t ∙ ap (option_map (twos_complement (8 * n))) e

  pub signed_nothing : None ≡ little_at n s off → None ≡ signed_at n s off
  unfolding signed_at
  signed_nothing e = ap (option_map (twos_complement (8 * n))) e

-- two's complement, for its two halves
module _ (bits n : ℕ) where
  pub twos_positive : n < 2 ^ (bits - 1) → twos_complement bits n ≡ pos n
  unfolding twos_complement
  twos_positive h = simp (lt-ltb n (2 ^ (bits - 1)) h)

  pub twos_negative : 2 ^ (bits - 1) ≤ n → n < 2 ^ bits → twos_complement bits n ≡ negsuc (2 ^ bits - suc n)
  unfolding twos_complement
  twos_negative l h = rw (le-ltb n (2 ^ (bits - 1)) l) (less (2 ^ bits) h)
    where
      less : (m : ℕ) → n < m → pos n -ℤ pos m ≡ negsuc (m - suc n)
      less zero g = absurd (omega arith)
      less (suc m) g = simp (lt-ltb n (suc m) g)

-- a number of a header
module _ (n : ℕ) (s : List ℕ) (off : ℕ) where
  pub unsigned_in_lem : (o : Option ℕ) → o ≡ little_at n s off → unwrap_or o 0 ≡ unsigned_in n s off
  unfolding unsigned_in
  unsigned_in_lem o e = ap (λ (x : Option ℕ). unwrap_or x 0) e

  pub signed_in_lem : (o : Option ℤ) → o ≡ signed_at n s off → unwrap_or o (pos 0) ≡ signed_in n s off
  unfolding signed_in
  signed_in_lem o e = ap (λ (x : Option ℤ). unwrap_or x (pos 0)) e

-- two runs of bytes make one number
module _ (m n : ℕ) (s : List ℕ) (off : ℕ) where
  pub little_join : (a b : ℕ) → Some a ≡ little_at m s off → Some b ≡ little_at n s (off + m) → Some (a + 256 ^ m * b) ≡ little_at (m + n) s off
  unfolding little_at bytes_at
  little_join a b e f =
      let h : off + m + n ≤ length s = little_within n s (off + m) b f in
      let l : length (take m (drop off s)) ≡ m = length-take-le m (drop off s) (simp length-drop (omega arith)) in
      simp (le-leb (off + (m + n)) (length s) (omega arith))
      (ap Some
      (rw (little_value m s off a e, little_value n s (off + m) b f, take-add m n (drop off s), little_append, l, drop-drop)))

-- a number in a part that is cut out for it
module _ (n : ℕ) (s : List ℕ) (off : ℕ) (p : List ℕ) (e : p ≡ take (off + n - off) (drop off s)) (h : off + n ≤ length s) where
  little_part : little_at n p 0 ≡ little_at n s off
  unfolding little_at bytes_at
  little_part =
      let m : off + n - off ≡ n = omega arith in
      let f : p ≡ take n (drop off s) = e ∙ ap (λ (k : ℕ). take k (drop off s)) m in
      let l : length p ≡ n = rw f (simp (length-take, length-drop) (omega arith)) in
      simp (le-leb (0 + n) (length p) (omega arith), le-leb (off + n) (length s) h) (ap (λ (b : List ℕ). Some (little_endian b)) (take_all n p (omega arith) ∙ f))

  pub unsigned_part : unsigned_in n p 0 ≡ unsigned_in n s off
  unfolding unsigned_in
  unsigned_part = ap (λ (o : Option ℕ). unwrap_or o 0) little_part

  pub signed_part : signed_in n p 0 ≡ signed_in n s off
  unfolding signed_in signed_at
  signed_part = ap (λ (o : Option ℕ). unwrap_or (option_map (twos_complement (8 * n)) o) (pos 0)) little_part
