-- What the listing program prints for a bundle: docs/SPECIFICATION.md, "The printed listing".
use Rattle.std.specs.Prelude.{ℕ, zero, suc, List, [], ◌∷◌, false, take, Option, Some, None, option_map}
use Rattle.refusal.specs.Refusal.{Guarded, answered, refused, refusal_number}
use Rattle.bundle_parts.specs.Accepted.{accept_bundle}
use Rattle.bundle_parts.specs.Parts.{bytes_of, segment_numbers, listed_numbers}
use Rattle.bundle.specs.declared.open.Layout.{Layout}
use Rattle.type_lines.specs.Lines.{refused_line, lines, Line, line, line_step}
use Rattle.type_lines.specs.declared.lines.LineIter.{LineIter}
use Rattle.bundle_lines.specs.declared.lines.BundleLineIter.{BundleLineIter}
use Rattle.bundle_lines.specs.declared.lines.PrintedLine.{PrintedLine}

-- all lines of a bundle
unfoldable pub printed : List ℕ → List (List ℕ)
printed s =
    elim (accept_bundle s) [
      | answered l ↦ lines (bytes_of s l.image) (segment_numbers s l) (bytes_of s l.types.part) l.types.address
      | refused n ↦ refused_line n ∷ []
    ]

-- no bundle has more lines: a slot takes four of its 65,536 bytes, and the last line comes after them
abbrev pub lines_most : ℕ
lines_most = 16385

-- ---- the same in steps

-- what is left to print: the lines of a bundle's rows from the walk's position on, the line of a refusal, or nothing
pub data Pending : Type 0 where
  rows : Layout → LineIter → Pending
  refusal : ℕ → Pending
  finished : Pending

abbrev pub start_of : Guarded Layout → Pending
start_of (answered l) = rows l (record { slot = 0; given = 0; ended = false })
start_of (refused n) = refusal n

abbrev pub pending_of : BundleLineIter → Pending
pending_of (BundleLineIter.Rows l c) = rows l c
pending_of (BundleLineIter.Refused x) = refusal (refusal_number x)
pending_of BundleLineIter.Done = finished

-- a line of the rows, with the layout kept
abbrev pub with_layout : Layout → Line LineIter → Line Pending
with_layout l x = record { text = x.text; size = x.size; next = rows l x.next }

unfoldable pub print_step : List ℕ → List ℕ → Pending → Option (Line Pending)
print_step s segments (rows l c) =
    option_map (with_layout l) (line_step (bytes_of s l.image) segments (bytes_of s l.types.part) l.types.address c)
print_step s segments (refusal n) = Some (line (refused_line n) finished)
print_step s segments finished = None

-- what a step's answer says, with the line's buffer after it
abbrev pub print_answer : List ℕ → Option PrintedLine → Option (Line Pending)
print_answer buffer o = option_map (λ l. record { text = take l.length buffer; size = l.length; next = pending_of l.next }) o

-- the numbers of the segments for what is left to print
abbrev pub numbers_for : List ℕ → Pending → List ℕ
numbers_for s (rows l c) = listed_numbers s l
numbers_for s (refusal n) = []
numbers_for s finished = []

-- what a number of steps gives: their lines, and what is then left
pub record Taken : Type 0 where
  pub lines : List (List ℕ)
  pub left : Pending

unfoldable pub taken : ℕ → List ℕ → List ℕ → Pending → Taken
taken zero s segments p = record { lines = []; left = p }
taken (suc n) s segments p =
    elim (print_step s segments p) [
      | None ↦ record { lines = []; left = p }
      | Some t ↦ record { lines = t.text ∷ (taken n s segments t.next).lines; left = (taken n s segments t.next).left }
    ]
