-- docs/SPECIFICATION.md, "Calls for C". The rows from a slot on in a fixed layout: for each row its slot, its address, its flags and the
-- length of its joined name, eight bytes each, the lowest first, and the name. Records are given as long as they fit into the room.
use Rattle.std.specs.Prelude.{ℕ, ◌-◌, ◌/◌, ◌%◌, ◌^◌, List, [], ◌∷◌, ◌++◌, cond, length}
use Rattle.typedescriptor.specs.Row.{TypeRow}
use Rattle.typedescriptor.specs.Given.{RowsGiven, rows_given}
use Rattle.qualified_name.specs.Name.{too_deep, qualified_name}

abbrev pub eight_bytes : ℕ → List ℕ
eight_bytes n =
    n % 256
    ∷ (n / 256 % 256
    ∷ (n / 65536 % 256
    ∷ (n / 0x1000000 % 256
    ∷ (n / 0x100000000 % 256 ∷ (n / 0x10000000000 % 256 ∷ (n / 0x1000000000000 % 256 ∷ (n / 0x100000000000000 % 256 ∷ [])))))))

unfoldable pub two_numbers : ℕ → ℕ → List ℕ
two_numbers a b = eight_bytes a ++ eight_bytes b

-- what comes before the name
unfoldable pub head_bytes : ℕ → ℕ → ℕ → ℕ → List ℕ
head_bytes slot address flags n = two_numbers slot address ++ two_numbers flags n

-- a row's record; one whose joined name is refused with 4 has 2^64 - 4 for the length and no name
unfoldable pub row_bytes : List ℕ → List ℕ → ℕ → TypeRow → List ℕ
row_bytes image segments slot row =
    cond (too_deep image segments row.parent) (head_bytes slot row.address row.flags (2 ^ 64 - 4))
    (head_bytes slot row.address row.flags (length (qualified_name image segments row)) ++ qualified_name image segments row)

-- the listing of a section from slot `i` on
abbrev pub listing_from : List ℕ → List ℕ → List ℕ → ℕ → ℕ → ℕ → RowsGiven
listing_from image segments types start i room = rows_given (row_bytes image segments) image segments types start i room

-- how many bytes, the slot to go on from, and 1 if all rows are given
abbrev pub listing_numbers : RowsGiven → List ℕ
listing_numbers l = length l.written ∷ (l.next ∷ (cond l.all 1 0 ∷ []))

abbrev pub listing_bytes : RowsGiven → List ℕ
listing_bytes l = l.written
