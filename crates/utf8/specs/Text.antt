-- A text in a list of bytes, as a computation: up to the first NUL or to the end; it exists only if it is well-formed.
use Rattle.std.specs.Prelude.{ℕ, zero, suc, Bool, true, false, ◌&&◌, List, [], ◌∷◌, length, replicate, nat_le, Option, Some, None}
use Rattle.utf8.specs.Table.{ByteRange, table, ◌to◌}
use Rattle.utf8.specs.declared.Lead.{Lead}
use Rattle.utf8.specs.declared.Lead.TheVariants.{Alone, Tail, Invalid}

abbrev pub in_range : ByteRange → ℕ → Bool
in_range r b = nat_le r.low b && nat_le b r.high

-- what must follow a byte that starts a sequence of one of the rows
unfoldable pub following : List (List ByteRange) → ℕ → Option (List ByteRange)
following [] b = None
following ([] ∷ rows) b = following rows b
following ((r ∷ rs) ∷ rows) b = elim (in_range r b) [ true ↦ Some rs | false ↦ following rows b ]

-- whether the bytes start in the pending ranges, and then go on with whole sequences.
-- `Utf8Laws.utf8-sound` and `Utf8Laws.utf8-complete` say that with nothing pending this is `WellFormed`.
unfoldable pub goes_on : List ℕ → List ByteRange → Bool
goes_on [] [] = true
goes_on [] (r ∷ rs) = false
goes_on (b ∷ bs) [] = elim (following table b) [ None ↦ false | Some rs ↦ goes_on bs rs ]
goes_on (b ∷ bs) (r ∷ rs) = in_range r b && goes_on bs rs

abbrev pub well_formed : List ℕ → Bool
well_formed s = goes_on s []

-- the bytes before the first NUL; all of them if there is none
unfoldable pub until_nul : List ℕ → List ℕ
until_nul [] = []
until_nul (zero ∷ s) = []
until_nul (suc b ∷ s) = suc b ∷ until_nul s

-- docs/SPECIFICATION.md, "Texts": the length of the text at the start of these bytes, if it is well-formed
unfoldable pub text_length : List ℕ → Option ℕ
text_length s = elim (well_formed (until_nul s)) [ true ↦ Some (length (until_nul s)) | false ↦ None ]

-- what a lead byte's limits say about the bytes after it: one-to-one (`Utf8Laws.leads-injective`)
abbrev pub leads : Lead → Option (List ByteRange)
leads Alone = Some []
leads (Tail low high more) = Some (◌to◌ low high ∷ replicate more (◌to◌ 0x80 0xbf))
leads Invalid = None
