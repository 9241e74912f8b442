-- When the joined name of a row is certain: docs/CUT.md. The row is certain, the chain of contexts around it ended at an address and not at
-- the end of what arrived, and each name in it is certain.
use Rattle.std.specs.Prelude.{ℕ, zero, suc, ◌+◌, ◌^◌, List, Bool, ◌&&◌, ◌||◌, leb, Option, option_map}
use Rattle.refusal.specs.Refusal.{Guarded}
use Rattle.runtime.specs.Reads.{run}
use Rattle.typedescriptor.specs.Slots.{slot_row}
use Rattle.parent.specs.Context.{header, name}
use Rattle.parent.specs.Chain.{contexts_most}
use Rattle.qualified_name.specs.Name.{name_answer}
use Rattle.certainty.specs.Certain.{if_there, certain}

-- a context's header; at or above 2^64 - 4 there is none, whatever the bytes
unfoldable pub header_certain : List ℕ → List ℕ → ℕ → Bool
header_certain arrived segments a = leb (2 ^ 64) (a + 4) || certain arrived segments (header a)

-- the first `n` contexts from an address on, with their names, and whether there is one more
unfoldable pub chain_certain : List ℕ → List ℕ → ℕ → ℕ → Bool
chain_certain arrived segments zero a = header_certain arrived segments a
chain_certain arrived segments (suc n) a =
    header_certain arrived segments a
    && if_there (run arrived segments (header a))
    (λ h. certain arrived segments (name h.address h.flags) && chain_certain arrived segments n h.parent)

-- the row of a slot and its joined name
unfoldable pub name_certain : List ℕ → List ℕ → List ℕ → ℕ → ℕ → Bool
name_certain arrived segments types start i =
    certain arrived segments (slot_row types start i)
    && if_there (run arrived segments (slot_row types start i)) (λ r. chain_certain arrived segments contexts_most r.parent)

-- what a listing says of the joined name of a slot's row, for a buffer of a length: nothing if there is no row
unfoldable pub joined_name : List ℕ → List ℕ → List ℕ → ℕ → ℕ → ℕ → Option (Guarded (List ℕ))
joined_name image segments types start i size =
    option_map (λ r. name_answer image segments r size) (run image segments (slot_row types start i))
