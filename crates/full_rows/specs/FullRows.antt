-- The rows of a types section with body and all trailing blocks, as records of a fixed number of numbers in the caller's list:
-- docs/SPECIFICATION.md, "Full rows".
use Rattle.std.specs.Prelude.{ℕ, ◌/◌, List, [], ◌∷◌, ◌++◌, map, cond, length, eqb, Option, Some, None}
use Rattle.runtime.specs.Reads.{run}
use Rattle.classtrailers.specs.Blocks as blocks
use Rattle.classtrailers.specs.declared.block.Block.{Block}
use Rattle.classtrailers.specs.declared.block.BlockBody.{BlockBody}
use Rattle.classtrailers.specs.declared.block.BlockKind.{BlockKind}
use Rattle.typedescriptor.specs.Row.{TypeRow}
use Rattle.typedescriptor.specs.Given.{RowsGiven, rows_given}
use Rattle.type_body.specs.Body.{Body, of_class, of_struct, of_enum, fixed, resilient, body}
use Rattle.type_body.specs.Items.{trailers}
use Rattle.type_body.specs.declared.trailers.Start.{Start}
use Rattle.steps.specs.Blocks.{kind_from}
use Rattle.full_rows.specs.declared.rows.Given.{Given}
use Rattle.full_rows.specs.declared.rows.Recorded.{Recorded}

-- ---- a record

-- the row: its slot, address, flags, parent, and the name's place and length
abbrev pub record_row : ℕ → TypeRow → List ℕ
record_row slot r = slot ∷ (r.address ∷ (r.flags ∷ (r.parent ∷ (r.name.start ∷ (r.name.size ∷ [])))))

-- the body: 1 for a class, 2 for a struct, 3 for an enum, and what it says; all are 0 if there is none
abbrev pub body_numbers : Option Body → List ℕ
body_numbers None = 0 ∷ (0 ∷ (0 ∷ (0 ∷ (0 ∷ (0 ∷ (0 ∷ (0 ∷ [])))))))
body_numbers (Some (of_class s (fixed n p) m f v)) = 1 ∷ (s ∷ (0 ∷ (n ∷ (p ∷ (m ∷ (f ∷ (v ∷ [])))))))
body_numbers (Some (of_class s (resilient b e) m f v)) = 1 ∷ (s ∷ (1 ∷ (b ∷ (e ∷ (m ∷ (f ∷ (v ∷ [])))))))
body_numbers (Some (of_struct f v)) = 2 ∷ (f ∷ (v ∷ (0 ∷ (0 ∷ (0 ∷ (0 ∷ (0 ∷ [])))))))
body_numbers (Some (of_enum p w e)) = 3 ∷ (p ∷ (w ∷ (e ∷ (0 ∷ (0 ∷ (0 ∷ (0 ∷ [])))))))

-- what is recorded of a block, filled up with zeros to three numbers: an address; for a table the number of entries and their address, and
-- a vtable's offset before them; the set and the number of its protocols
abbrev pub table_recorded : BlockKind → ℕ → ℕ → ℕ → List ℕ
table_recorded k o n a = cond (eqb (blocks.row_number k) 4) (o ∷ (n ∷ (a ∷ []))) (n ∷ (a ∷ (0 ∷ [])))

abbrev pub recorded_in : BlockKind → BlockBody → List ℕ
recorded_in k (BlockBody.At a) = a ∷ (0 ∷ (0 ∷ []))
recorded_in k (BlockBody.Table o n a) = table_recorded k o n a
recorded_in k (BlockBody.Set s n) = s ∷ (n ∷ (0 ∷ []))

abbrev pub recorded_numbers : Block → List ℕ
recorded_numbers b = recorded_in b.kind b.body

-- a block of a kind: 1 and what is recorded; all are 0 if there is none
abbrev pub block_four : Option Block → List ℕ
block_four None = 0 ∷ (0 ∷ (0 ∷ (0 ∷ [])))
block_four (Some b) = 1 ∷ recorded_numbers b

-- the blocks of these kinds, of what follows a body
abbrev pub kind_fours : List ℕ → List ℕ → Option Start → List BlockKind → List ℕ
kind_fours image segments s [] = []
kind_fours image segments s (k ∷ ks) = block_four (kind_from image segments k s) ++ kind_fours image segments s ks

-- those of all kinds, in the table's order
unfoldable pub block_fours : List ℕ → List ℕ → Option Start → List ℕ
block_fours image segments s = kind_fours image segments s (map (λ (r : blocks.BlockRow). r.kind) blocks.block_table)

-- what follows the body of a descriptor at an address with these flags, and the body itself
abbrev pub body_and_blocks : List ℕ → List ℕ → ℕ → ℕ → Option Body → List ℕ
body_and_blocks image segments a flags b = body_numbers b ++ block_fours image segments (trailers a flags b)

unfoldable pub full_row : List ℕ → List ℕ → ℕ → TypeRow → List ℕ
full_row image segments slot r =
    record_row slot r ++ body_and_blocks image segments r.address r.flags (run image segments (body r.address r.flags))

-- ---- the records

-- the rows of a section from slot `i` on, as a caller's list of `n` numbers holds them
abbrev pub full_rows_in : List ℕ → List ℕ → List ℕ → ℕ → ℕ → ℕ → RowsGiven
full_rows_in image segments types start i n = rows_given (full_row image segments) image segments types start i n

-- ---- the call's answer: the counts, with 58 numbers to a record; the other numbers are in the caller's list

abbrev pub given_of : RowsGiven → Given
given_of l = record { records = length l.written / 58; next = l.next; all = l.all }

abbrev pub numbers_of : RowsGiven → List ℕ
numbers_of l = l.written

abbrev pub recorded_of : Recorded → List ℕ
recorded_of r = r.first ∷ (r.second ∷ (r.third ∷ []))
