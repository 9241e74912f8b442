-- What std's casts between signed and unsigned numbers mean.
use Rattle.std.proofs.Common.{◌≡◌, ℕ, ◌-◌, ◌^◌, ◌<◌, ◌≤◌, sym, arith, w8, w16, w32, w64, refl, to_z, le-ltb, lt-ltb}
use native.Mathlib.Decide.{dec_lt}
use mir.Syntax.{Width, w128}
use mir.Val.{bits, hbits}
use Rattle.util.specs.LittleEndian.{twos_complement}
use Rattle.util.proofs.LittleEndianLaws.{twos_positive, twos_negative}

-- a number's bits, read as signed, are its two's complement
half : (w : Width) → hbits w ≡ bits w - 1
half w8 = refl
half w16 = refl
half w32 = refl
half w64 = refl
half w128 = refl

pub signed_bits : (w : Width) (n : ℕ) → n < 2 ^ bits w → to_z w n ≡ twos_complement (bits w) n
signed_bits w n h =
    elim (dec_lt n (2 ^ hbits w)) [
      | yes l ↦ rw (lt-ltb n (2 ^ hbits w) l) (sym (twos_positive (bits w) n (rw (half w) at l)))
      | no l ↦
          let g : 2 ^ hbits w ≤ n = omega arith in
          rw (le-ltb n (2 ^ hbits w) g) (sym (twos_negative (bits w) n (rw (half w) at g) h))
    ]
