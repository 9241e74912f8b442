-- A text at an offset: docs/SPECIFICATION.md, "Texts".
use Rattle.std.specs.Prelude.{ℕ, ◌+◌, cond, List, [], length, take, drop, nat_le, Option, Some, None, option_map}
use Rattle.utf8.specs.Text.{text_length, until_nul, well_formed}
-- a part of a list of bytes
pub use Rattle.util.specs.declared.cstr.Place.{Place}

abbrev pub place : ℕ → ℕ → Place
place o n = record { start = o; size = n }

-- where the text is; there is none at an offset past the end, and the empty text at the end
unfoldable pub text_at : List ℕ → ℕ → Option Place
text_at s off = cond (nat_le off (length s)) (option_map (place off) (text_length (drop off s))) None

-- the bytes of a part, none if it does not lie within
unfoldable pub part_of : List ℕ → Place → List ℕ
part_of s p = cond (nat_le (p.start + p.size) (length s)) (take p.size (drop p.start s)) []

-- the bytes of a text, none if there is none
abbrev pub text_part : List ℕ → Option Place → List ℕ
text_part s None = []
text_part s (Some p) = part_of s p

-- the text of a field of fixed size (`segname` and `sectname` of mach-o/loader.h): up to the first NUL; empty if that is ill_formed
unfoldable pub fixed_text : List ℕ → List ℕ
fixed_text s = cond (well_formed (until_nul s)) (until_nul s) []
