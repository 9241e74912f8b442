-- Relative pointers (docs/SPECIFICATION.md, "Relative pointers"): Metadata.h, `TargetRelativeDirectPointer` (RelativePointer.h): the address of the offset itself plus
-- the signed offset, in the address space's 64 bits.
use Rattle.std.specs.Prelude.{ℕ, zero, suc, ◌-◌, ◌%◌, ◌^◌, ℤ, pos, negsuc, ◌+ℤ◌}

-- the remainder of an integer, from 0 to `m` - 1
abbrev pub modulo : ℤ → ℕ → ℕ
modulo (pos n) m = n % m
modulo (negsuc n) m = m - 1 - n % m

unfoldable pub relative_pointer : ℕ → ℤ → ℕ
relative_pointer base offset = modulo (pos base +ℤ offset) (2 ^ 64)

-- the same where an offset of 0 refers to nothing: address 0
unfoldable pub relative_address : ℕ → ℤ → ℕ
relative_address base (pos zero) = 0
relative_address base (pos (suc n)) = relative_pointer base (pos (suc n))
relative_address base (negsuc n) = relative_pointer base (negsuc n)
