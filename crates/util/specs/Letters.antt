-- The bytes of a quoted text of ASCII letters, one for each.
use Rattle.std.specs.Prelude.{ℕ, zero, suc, List, [], ◌∷◌}
use Prim.Native.Char.{code}
use Prim.Native.String.{String, len, char_at}

abbrev pub letters_from : ℕ → ℕ → String → List ℕ
letters_from zero i s = []
letters_from (suc n) i s = code (char_at s i) ∷ letters_from n (suc i) s

abbrev pub letters : String → List ℕ
letters s = letters_from (len s) 0 s
