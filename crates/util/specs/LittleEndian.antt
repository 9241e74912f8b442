-- Numbers in bytes, little-endian, for every width: docs/SPECIFICATION.md, "Numbers in bytes".
use Rattle.std.specs.Prelude.{ℕ, ◌+◌, ◌-◌, ◌*◌, ◌^◌, cond, List, [], ◌∷◌, length, take, drop, ℤ, pos, ◌-ℤ◌, nat_le, nat_lt, Option, Some, None, option_map, unwrap_or}

-- the number that has these bytes, the lowest first
unfoldable pub little_endian : List ℕ → ℕ
little_endian [] = 0
little_endian (b ∷ bs) = b + 256 * little_endian bs

-- `n` bytes from an offset on, unless they run past the end
unfoldable pub bytes_at : ℕ → List ℕ → ℕ → Option (List ℕ)
bytes_at n s off = cond (nat_le (off + n) (length s)) (Some (take n (drop off s))) None

unfoldable pub little_at : ℕ → List ℕ → ℕ → Option ℕ
little_at n s off = option_map little_endian (bytes_at n s off)

-- the number that `n` means in two's complement of `bits` bits
unfoldable pub twos_complement : ℕ → ℕ → ℤ
twos_complement bits n = cond (nat_lt n (2 ^ (bits - 1))) (pos n) (pos n -ℤ pos (2 ^ bits))

unfoldable pub signed_at : ℕ → List ℕ → ℕ → Option ℤ
signed_at n s off = option_map (twos_complement (8 * n)) (little_at n s off)

-- the numbers in the bytes of a header, 0 if they would run past it
unfoldable pub unsigned_in : ℕ → List ℕ → ℕ → ℕ
unsigned_in n header off = unwrap_or (little_at n header off) 0

unfoldable pub signed_in : ℕ → List ℕ → ℕ → ℤ
signed_in n header off = unwrap_or (signed_at n header off) (pos 0)
