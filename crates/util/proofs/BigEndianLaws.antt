-- One law for every width, as for little-endian numbers.
use Rattle.std.specs.Prelude.{◌≡◌, ℕ, zero, suc, ◌+◌, ◌*◌, ◌^◌, ◌<◌, ◌≤◌, List, [], ◌∷◌, ◌++◌, reverse, length, take, drop, slice_index, refl, Some, None, option_map}
use Rattle.std.proofs.Common.{arith, ◌∙◌, ap, length-take, length-drop, take-suc, take-add, get_or-drop, take_all}
use Rattle.std.proofs.Math.Path.{sym}
use Rattle.std.proofs.lemmas.List.{reverse-append, length-reverse}
use Rattle.std.proofs.Math.Seq.{drop-drop}
use Rattle.util.specs.LittleEndian.{little_endian, bytes_at}
use Rattle.util.proofs.LittleEndianLaws.{little_append, bytes_found, bytes_nothing, bytes_within, bytes_beyond, bytes_value, array_length}
use Rattle.util.specs.BigEndian.{big_endian, big_at}

-- the sum of `n` bytes from `off` on, each at its weight: the last one counts as it is
abbrev pub sum_to : List ℕ → ℕ → ℕ → ℕ
sum_to s off zero = 0
sum_to s off (suc n) = slice_index s (off + n) + 256 * sum_to s off n

pub big_sum : (n : ℕ) (s : List ℕ) (off : ℕ) → off + n ≤ length s → big_endian (take n (drop off s)) ≡ sum_to s off n
unfolding little_endian
big_sum zero s off h = refl
big_sum (suc n) s off h =
    let here : n < length (drop off s) = simp length-drop (omega arith) in
    ap big_endian (take-suc (drop off s) n 0 here)
    ∙ ap little_endian (reverse-append (take n (drop off s)) (slice_index (drop off s) n ∷ []))
    ∙ rw (big_sum n s off (omega arith), get_or-drop off s n 0)

-- the number of two runs of bytes, one after the other
pub big_append : (xs ys : List ℕ) → big_endian (xs ++ ys) ≡ big_endian ys + 256 ^ length ys * big_endian xs
big_append xs ys = ap little_endian (reverse-append xs ys) ∙ little_append (reverse ys) (reverse xs) ∙ rw length-reverse

module _ (n : ℕ) (s : List ℕ) (off : ℕ) where
  pub big_found : (v : ℕ) → off + n ≤ length s → v ≡ sum_to s off n → Some v ≡ big_at n s off
  unfolding big_at
  big_found v h e = bytes_found big_endian n s off v h (e ∙ sym (big_sum n s off h))

  pub big_nothing : length s < off + n → None ≡ big_at n s off
  unfolding big_at
  big_nothing h = bytes_nothing big_endian n s off h

  pub big_within : (v : ℕ) → Some v ≡ big_at n s off → off + n ≤ length s
  unfolding big_at
  big_within v e = bytes_within big_endian n s off v e

  pub big_beyond : None ≡ big_at n s off → length s < off + n
  unfolding big_at
  big_beyond e = bytes_beyond big_endian n s off e

-- bytes that were read as an array
module _ (n : ℕ) (s : List ℕ) (off : ℕ) where
  pub big_read : (bs : List ℕ) (v : ℕ) → Some bs ≡ bytes_at n s off → v ≡ sum_to bs 0 n → Some v ≡ big_at n s off
  unfolding big_at
  big_read bs v e f =
      let l : length bs ≡ n = array_length n s off bs e in
      let all : take n (drop 0 bs) ≡ bs = take_all n bs (omega arith) in
      ap Some (f ∙ sym (big_sum n bs 0 (omega arith)) ∙ ap big_endian all) ∙ ap (option_map big_endian) e

  pub big_unread : None ≡ bytes_at n s off → None ≡ big_at n s off
  unfolding big_at
  big_unread e = ap (option_map big_endian) e

-- two runs of bytes make one number
module _ (m n : ℕ) (s : List ℕ) (off : ℕ) where
  pub big_join : (a b : ℕ) → Some a ≡ big_at m s off → Some b ≡ big_at n s (off + m) → Some (b + 256 ^ n * a) ≡ big_at (m + n) s off
  unfolding big_at
  big_join a b e f =
      let h : off + m + n ≤ length s = bytes_within big_endian n s (off + m) b f in
      let l : length (take n (drop (off + m) s)) ≡ n = simp (length-take, length-drop) (omega arith) in
      bytes_found big_endian (m + n) s off _ (omega arith)
      (rw (take-add m n (drop off s), drop-drop, big_append, l, bytes_value big_endian m s off a e, bytes_value big_endian n s (off + m) b f))
