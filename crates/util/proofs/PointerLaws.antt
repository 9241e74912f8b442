-- The sum of an address and an offset; and an offset of 0, as a test finds it, and what it says about a relative address.
use Rattle.std.specs.Prelude.{◌≡◌, ℕ, zero, suc, ◌+◌, ◌%◌, ◌^◌, ◌<◌, ℤ, pos, negsuc, FitsSigned, ◌≢◌, refl}
use Rattle.std.proofs.Common.{arith, ap, of_z, le-ltb, lt-ltb}
use Rattle.std.specs.Int.{w32, w64}
use native.Mathlib.Decide.{dec_lt}
use Rattle.util.specs.Pointer.{relative_pointer, relative_address}

-- an offset below 0 goes back
pub pointer_sum : (base r : ℕ) (z : ℤ) → base < 2 ^ 64 → FitsSigned w32 z → r ≡ (base + of_z w64 z) % 2 ^ 64 → r ≡ relative_pointer base z
unfolding relative_pointer
pointer_sum base r (pos n) h f e = e
pointer_sum base r (negsuc n) h f e = go (dec_lt base (suc n))
  where
    go : Dec (base < suc n) → r ≡ relative_pointer base (negsuc n)
    go (yes l) = rw (lt-ltb base (suc n) l) (omega (arith, f.sfits))
    go (no l) = rw (le-ltb base (suc n) (omega arith)) (omega (arith, f.sfits))

pub zero_offset : (z : ℤ) → FitsSigned w32 z → of_z w32 z ≡ 0 → z ≡ pos 0
zero_offset (pos n) f e = ap pos e
zero_offset (negsuc n) f e = absurd (omega (arith, f.sfits))

pub other_offset : (z : ℤ) → (of_z w32 z ≢ 0) → z ≢ pos 0
other_offset z h e = h (ap (of_z w32) e)

pub null_address : (base : ℕ) (z : ℤ) → z ≡ pos 0 → 0 ≡ relative_address base z
unfolding relative_address
null_address base z e = rw e

pub address_at : (base r : ℕ) (z : ℤ) → (z ≢ pos 0) → r ≡ relative_pointer base z → r ≡ relative_address base z
unfolding relative_address
address_at base r (pos zero) h e = absurd (h refl)
address_at base r (pos (suc n)) h e = e
address_at base r (negsuc n) h e = e
