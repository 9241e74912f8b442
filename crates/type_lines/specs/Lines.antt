-- The printed listing, line by line: docs/SPECIFICATION.md, "The printed listing".
use Rattle.std.specs.Prelude.{ℕ, ◌+◌, ◌%◌, ◌^◌, true, false, cond, List, [], ◌∷◌, ◌++◌, map, length, take, ◌==◌, Option, Some, None, option_map}
use Rattle.refusal.specs.Refusal.{Guarded, answered, refused}
use Rattle.typedescriptor.specs.Row.{TypeRow}
use Rattle.typedescriptor.specs.Slots.{Found, next_row, rows}
use Rattle.qualified_name.specs.Name.{name_answer}
use Rattle.type_lines.specs.Digits.{hex, decimal}
use Rattle.util.specs.Letters.{letters}
use Rattle.type_lines.specs.declared.lines.LineIter.{LineIter}
use Rattle.type_lines.specs.declared.lines.Line.{Line as Answer}

-- the name's buffer, and the longest line: 16 digits, a space, a kind of at most 6 letters, a space, a name, a line end
abbrev pub name_bytes : ℕ
name_bytes = 4096

abbrev pub line_bytes : ℕ
line_bytes = 4121

abbrev pub space : List ℕ
space = 32 ∷ []

abbrev pub newline : List ℕ
newline = 10 ∷ []

-- the kind's word, by the low five bits of the flags
unfoldable pub kind_word : ℕ → List ℕ
kind_word flags =
    cond (flags % 32 == 16) (letters "class")
    (cond (flags % 32 == 17) (letters "struct")
    (cond (flags % 32 == 18) (letters "enum") (letters "other")))

-- `refused ` and the refusal's number
unfoldable pub refused_text : ℕ → List ℕ
refused_text n = letters "refused " ++ decimal 20 n

-- the line of a refused bundle
abbrev pub refused_line : ℕ → List ℕ
refused_line n = refused_text n ++ newline

-- the joined name, or its refusal in its place
abbrev pub text_or : Guarded (List ℕ) → List ℕ
text_or (answered name) = name
text_or (refused n) = refused_text n

unfoldable pub name_text : List ℕ → List ℕ → TypeRow → List ℕ
name_text image segments row = text_or (name_answer image segments row name_bytes)

-- a row's line: the address in 16 digits, the kind, the joined name
unfoldable pub row_line : List ℕ → List ℕ → TypeRow → List ℕ
row_line image segments row = hex 16 row.address ++ space ++ kind_word row.flags ++ space ++ name_text image segments row ++ newline

-- the last line: `end` and the row count, which has at most 20 digits
unfoldable pub end_line : ℕ → List ℕ
end_line count = letters "end" ++ space ++ decimal 20 count ++ newline

-- all lines of the rows of a types section
unfoldable pub lines : List ℕ → List ℕ → List ℕ → ℕ → List (List ℕ)
lines image segments types start =
    map (λ (f : Found). row_line image segments f.row) (rows image segments types start) ++ (end_line (length (rows image segments types start)) ∷ [])

-- one line after the other: a line, its length, and the walk from there on
pub record Line (W : Type 0) : Type 0 where
  pub text : List ℕ
  pub size : ℕ
  pub next : W

abbrev pub line : {W : Type 0} → List ℕ → W → Line W
line t w = record { text = t; size = length t; next = w }

-- the line of a step; none if it gives none
abbrev pub line_text : {W : Type 0} → Guarded (Option (Line W)) → Option (List ℕ)
line_text (answered None) = None
line_text (answered (Some l)) = Some l.text
line_text (refused n) = None

-- the lines of the rows: that of the next row, or the last line
abbrev pub line_at : List ℕ → List ℕ → ℕ → Option Found → Line LineIter
line_at image segments given None = line (end_line given) (record { slot = 0; given = given; ended = true })
line_at image segments given (Some f) = line (row_line image segments f.row) (record { slot = f.next; given = (given + 1) % 2 ^ 64; ended = false })

unfoldable pub line_step : List ℕ → List ℕ → List ℕ → ℕ → LineIter → Option (Line LineIter)
line_step image segments types start c =
    cond c.ended None (Some (line_at image segments c.given (next_row image segments types start c.slot)))

-- what a step's answer says, with the line's buffer after it
abbrev pub line_answer : List ℕ → Option Answer → Option (Line LineIter)
line_answer buffer o = option_map (λ l. record { text = take l.length buffer; size = l.length; next = l.next }) o
