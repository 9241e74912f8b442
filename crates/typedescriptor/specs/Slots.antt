-- The types section: docs/SPECIFICATION.md, "Type rows": a list of slots of four bytes, each the offset of a descriptor from the slot's own
-- address; a shorter last piece is not a slot. The address of a slot is the section's plus 4 for each slot before it, modulo 2^64.
use Rattle.std.specs.Prelude.{ℕ, zero, suc, ◌+◌, ◌-◌, ◌*◌, ◌/◌, ◌%◌, ◌^◌, cond, List, [], ◌∷◌, length, ◌==◌, nat_lt, Option, Some, None, option_map}
use Rattle.util.specs.LittleEndian.{unsigned_in, signed_in}
use Rattle.util.specs.Pointer.{relative_pointer}
use Rattle.runtime.specs.Reads.{Reads, nothing, run}
use Rattle.typedescriptor.specs.Row.{TypeRow, descriptor, row_of}
use Rattle.typedescriptor.specs.declared.iter.TypeStep.{TypeStep}

abbrev pub slots : List ℕ → ℕ
slots types = length types / 4

-- the address that the slot refers to
abbrev pub slot_address : List ℕ → ℕ → ℕ → ℕ
slot_address types start i = relative_pointer ((start + 4 * i) % 2 ^ 64) (signed_in 4 types (4 * i))

-- that address, if the slot exists and its offset is not 0
abbrev pub slot_descriptor : List ℕ → ℕ → ℕ → Option ℕ
slot_descriptor types start i =
    cond (nat_lt i (slots types)) (cond (unsigned_in 4 types (4 * i) == 0) None (Some (slot_address types start i))) None

-- what is read there
abbrev pub read_at : {A : Type 0} → Option ℕ → (ℕ → Reads A) → Reads A
read_at None f = nothing
read_at (Some a) f = f a

-- the row of a slot
unfoldable pub slot_row : List ℕ → ℕ → ℕ → Reads TypeRow
slot_row types start i = read_at (slot_descriptor types start i) descriptor

-- a row with the slot it was found in and the slot after it
pub record Found : Type 0 where
  pub slot : ℕ
  pub row : TypeRow
  pub next : ℕ

abbrev pub found : ℕ → TypeRow → Found
found i r = record { slot = i; row = r; next = i + 1 }

-- the first row of `n` slots from slot `i` on: a slot without a row is passed over
unfoldable pub first_row : List ℕ → List ℕ → List ℕ → ℕ → ℕ → ℕ → Option Found
first_row image segments types start zero i = None
first_row image segments types start (suc n) i =
    elim (run image segments (slot_row types start i)) [
      | None ↦ first_row image segments types start n (suc i)
      | Some r ↦ Some (found i r)
    ]

-- the next row from a slot on
unfoldable pub next_row : List ℕ → List ℕ → List ℕ → ℕ → ℕ → Option Found
next_row image segments types start i = first_row image segments types start (slots types - i) i

-- all rows of `n` slots from slot `i` on, each with its slot, in the order of the slots
unfoldable pub rows_from : List ℕ → List ℕ → List ℕ → ℕ → ℕ → ℕ → List Found
rows_from image segments types start zero i = []
rows_from image segments types start (suc n) i =
    elim (run image segments (slot_row types start i)) [
      | None ↦ rows_from image segments types start n (suc i)
      | Some r ↦ found i r ∷ rows_from image segments types start n (suc i)
    ]

-- the rows of the section
unfoldable pub rows : List ℕ → List ℕ → List ℕ → ℕ → List Found
rows image segments types start = rows_from image segments types start (slots types) 0

abbrev pub type_step_of : List ℕ → Option TypeStep → Option Found
type_step_of image o = option_map (λ s. record { slot = s.slot; row = row_of image s.row; next = s.next.slot }) o
