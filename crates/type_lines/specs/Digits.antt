-- Numbers in digits: docs/SPECIFICATION.md, "The printed listing".
use Rattle.std.specs.Prelude.{ℕ, zero, suc, ◌+◌, ◌/◌, ◌%◌, ◌^◌, cond, List, [], ◌∷◌, ◌++◌, nat_lt}

-- 0 to 9, then a to f
unfoldable pub digit : ℕ → ℕ
digit n = cond (nat_lt n 10) (48 + n) (87 + n)

-- the lowest `k` hexadecimal digits, the highest of them first
unfoldable pub hex : ℕ → ℕ → List ℕ
hex zero n = []
hex (suc k) n = digit (n / 16 ^ k % 16) ∷ hex k n

-- the decimal digits, without leading zeros: at most `k`
unfoldable pub decimal : ℕ → ℕ → List ℕ
decimal zero n = []
decimal (suc k) n = cond (nat_lt n 10) (digit n ∷ []) (decimal k (n / 10) ++ (digit (n % 10) ∷ []))
