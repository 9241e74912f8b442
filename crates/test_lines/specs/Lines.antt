-- The fields of a line, and what their texts stand for.
use Rattle.std.specs.Prelude.{ℕ, zero, suc, ◌+◌, ◌-◌, ◌*◌, ◌%◌, ◌^◌, List, [], ◌∷◌, Bool, true, false, cond, ◌&&◌, length, take, drop, leb, ltb, eqb, Option, Some, None}

-- how many bytes come before the first `stop`; all of them if there is none
unfoldable pub span : ℕ → List ℕ → ℕ
span stop [] = 0
span stop (b ∷ s) = cond (eqb b stop) 0 (suc (span stop s))

-- the first place of `stop` from `at` on, or the end; `at` itself if it is past the end
unfoldable pub find_from : List ℕ → ℕ → ℕ → ℕ
find_from s at stop = at + span stop (drop at s)

-- the line that starts at `at`, up to the next newline (10), and where the next line starts; not before the end if there is none
unfoldable pub line_at_offset : List ℕ → ℕ → List ℕ
line_at_offset s at = take (span 10 (drop at s)) (drop at s)

unfoldable pub after_line : List ℕ → ℕ → ℕ
after_line s at = cond (ltb (find_from s at 10) (length s)) (find_from s at 10 + 1) (find_from s at 10)

-- the field with a number, from 0 on: one space (32) separates two fields, and fields past the last one are empty
unfoldable pub field_of : List ℕ → ℕ → List ℕ
field_of s zero = take (span 32 s) s
field_of s (suc n) = field_of (drop (suc (span 32 s)) s) n

-- the first `n` numbers, none if there are fewer
unfoldable pub first_of : List ℕ → ℕ → List ℕ
first_of s n = cond (leb n (length s)) (take n s) []

-- whether two lists are equal
unfoldable pub equals : List ℕ → List ℕ → Bool
equals [] [] = true
equals [] (b ∷ t) = false
equals (a ∷ s) [] = false
equals (a ∷ s) (b ∷ t) = eqb a b && equals s t

-- the value of a lowercase hexadecimal digit, `0` (48) to `9` or `a` (97) to `f`; 16 for any other byte
unfoldable pub digit_of : ℕ → ℕ
digit_of b = cond (leb 48 b && leb b 57) (b - 48) (cond (leb 97 b && leb b 102) (b - 87) 16)

-- whether each byte is a digit
unfoldable pub all_digits : List ℕ → Bool
all_digits [] = true
all_digits (b ∷ s) = ltb (digit_of b) 16 && all_digits s

-- the number of the digits that follow those of `n`
unfoldable pub hex_value : ℕ → List ℕ → ℕ
hex_value n [] = n
hex_value n (b ∷ s) = hex_value (n * 16 + digit_of b) s

-- the number of a text: at least one digit, only digits, and below 2^64
unfoldable pub hex_number : List ℕ → Option ℕ
hex_number s = cond (ltb 0 (length s) && all_digits s && ltb (hex_value 0 s) (2 ^ 64)) (Some (hex_value 0 s)) None

-- the byte of each pair of digits, the high digit first
unfoldable pub digit_pairs : List ℕ → List ℕ
digit_pairs [] = []
digit_pairs (h ∷ []) = []
digit_pairs (h ∷ (l ∷ s)) = (digit_of h * 16 + digit_of l) ∷ digit_pairs s

-- the bytes of a text: at least one pair of digits, and only pairs; `-` (45) alone stands for no bytes
unfoldable pub hex_bytes : List ℕ → Option (List ℕ)
hex_bytes s =
    cond (equals s (45 ∷ [])) (Some [])
    (cond (ltb 0 (length s) && eqb (length s % 2) 0 && all_digits s) (Some (digit_pairs s)) None)

-- bytes, if a buffer has room for them
unfoldable pub fitting : List ℕ → Option (List ℕ) → Option (List ℕ)
fitting out None = None
fitting out (Some t) = cond (leb (length t) (length out)) (Some t) None

-- the numbers of the fields `from`, `from` + `step` and so on, at most `n`: up to the first that is not a number
unfoldable pub numbers_of_fields : List ℕ → ℕ → ℕ → ℕ → List ℕ
numbers_of_fields s from step zero = []
numbers_of_fields s from step (suc n) = elim (hex_number (field_of s from)) [ None ↦ [] | Some v ↦ v ∷ numbers_of_fields s (from + step) step n ]

-- a list's count is in the field `from`, and its numbers are in the fields after that: those that are written to a list of `room` numbers,
-- and their count, if all of them are present
unfoldable pub list_numbers : List ℕ → ℕ → ℕ → List ℕ
list_numbers s from room = elim (hex_number (field_of s from)) [ None ↦ [] | Some n ↦ cond (leb n room) (numbers_of_fields s (from + 1) 1 n) [] ]

unfoldable pub list_count : List ℕ → ℕ → ℕ → Option ℕ
list_count s from room =
    elim (hex_number (field_of s from)) [
      | None ↦ None
      | Some n ↦ cond (leb n room && eqb (length (numbers_of_fields s (from + 1) 1 n)) n) (Some n) None
    ]
