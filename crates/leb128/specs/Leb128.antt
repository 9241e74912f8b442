-- LEB128 (docs/SPECIFICATION.md, "LEB128"): the DWARF standard, version 5, section 7.6 "Variable Length Data". What `read_uleb128` and `read_sleb128` accept of it is darwinscope's.
use Rattle.std.specs.Prelude.{ℕ, zero, suc, ◌+◌, ◌*◌, ◌/◌, ◌%◌, ◌^◌, min, List, [], ◌∷◌, cond, ◌&&◌, length, get_or, ℤ, leb, ltb, eqb, Option, Some, None, option_map}
use Rattle.util.specs.LittleEndian.{twos_complement}
use Rattle.util.specs.Pointer.{modulo}
use Rattle.leb128.specs.declared.leb128.Leb128.{Leb128}

-- the bytes of the first number: up to and including the first byte whose high bit is clear
unfoldable pub encoding : List ℕ → Option (List ℕ)
encoding [] = None
encoding (b ∷ bs) = cond (ltb b 128) (Some (b ∷ [])) (option_map (λ (e : List ℕ). b ∷ e) (encoding bs))

-- what is read from an encoding; nothing if the bytes end before it does
abbrev pub of_encoding : {A : Type 0} → (List ℕ → Option A) → Option (List ℕ) → Option A
of_encoding f None = None
of_encoding f (Some e) = f e

-- the number of an encoding: the low seven bits of each byte, the lowest first
unfoldable pub unsigned_number : List ℕ → ℕ
unsigned_number [] = 0
unsigned_number (b ∷ bs) = b % 128 + 128 * unsigned_number bs

-- the same bits in two's complement
unfoldable pub signed_number : List ℕ → ℤ
signed_number e = twos_complement (7 * length e) (unsigned_number e)

-- a number in `k` + 1 bytes: its chunks of seven bits, each with the high bit except the last. Bytes beyond those that it needs have zeros (or ones).
unfoldable pub leb_bytes : ℕ → ℕ → List ℕ
leb_bytes zero n = n % 128 ∷ []
leb_bytes (suc k) n = (128 + n % 128) ∷ leb_bytes k (n / 128)

unfoldable pub encoded_signed : ℕ → ℤ → List ℕ
encoded_signed k z = leb_bytes k (modulo z (128 ^ suc k))

-- the low 64 bits of the number
abbrev pub word : List ℕ → ℕ
word e = unsigned_number e % 2 ^ 64

-- `read_uleb128`: the low 64 bits of up to ten bytes; an eleventh byte must be 0
unfoldable pub uleb_of : List ℕ → Option (ℕ × ℕ)
uleb_of e = cond (leb (length e) 11 && eqb (get_or e 10 0) 0) (Some (word e, length e)) None

abbrev pub uleb128 : List ℕ → Option (ℕ × ℕ)
uleb128 bytes = of_encoding uleb_of (encoding bytes)

-- `read_sleb128`: also the low 64 bits, in two's complement of the bits that are present; an eleventh byte must repeat bit 63
abbrev pub sign_bits : ℕ → ℕ
sign_bits w = cond (ltb w (2 ^ 63)) 0 127

unfoldable pub sleb_of : List ℕ → Option (ℤ × ℕ)
sleb_of e =
    cond (leb (length e) 11 && eqb (get_or e 10 (sign_bits (word e))) (sign_bits (word e)))
    (Some (twos_complement (min 64 (7 * length e)) (word e), length e))
    None

abbrev pub sleb128 : List ℕ → Option (ℤ × ℕ)
sleb128 bytes = of_encoding sleb_of (encoding bytes)

-- a number that was read, and how many bytes it has
abbrev pub read_value : {A : Type 0} → Option (Leb128 A) → Option (A × ℕ)
read_value o = option_map (λ n. (n.value, n.consumed)) o
