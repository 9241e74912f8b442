-- What Table 3-7 has of a byte that may start a sequence: by the table's rows (`TableHas`), and in plain numbers for each of the 256 bytes
-- (`classes`). No contract uses either; `LeadLaws.lead-bytes` says both of what `lead_limits` promises.
use Rattle.std.specs.Prelude.{ℕ, ◌≤◌, List, [], ◌∷◌, ◌++◌, replicate}
use mathlib.Core.List.{Memᴰ}
use Rattle.utf8.specs.Table.{ByteRange, table, ◌to◌}
use Rattle.utf8.specs.declared.Lead.{Lead}
use Rattle.utf8.specs.declared.Lead.TheVariants.{Alone, Tail, Invalid}

-- a row whose first range has the byte, with these ranges after it
pub record Starts (rows : List (List ByteRange)) (b : ℕ) (rs : List ByteRange) : Type 0 where
  pub lead : ByteRange
  pub row : Memᴰ (lead ∷ rs) rows
  pub bounds : (lead.low ≤ b) × (b ≤ lead.high)

-- how many bytes follow and the limits of the second, by the row; or that no row starts so
abbrev pub TableHas : ℕ → Lead → Type 0
TableHas b Alone = Starts table b []
TableHas b (Tail low high more) = Starts table b (low to high ∷ replicate more (0x80 to 0xbf))
TableHas b Invalid = (rs : List ByteRange) → Starts table b rs → ⊥

-- the same for each byte from 00 to FF, by how many in succession are alike
unfoldable pub classes : List Lead
classes =
    replicate 0x80 Alone ++
    replicate 0x42 Invalid ++
    replicate 0x1e (Tail 0x80 0xbf 0) ++
    replicate 1 (Tail 0xa0 0xbf 1) ++
    replicate 12 (Tail 0x80 0xbf 1) ++
    replicate 1 (Tail 0x80 0x9f 1) ++
    replicate 2 (Tail 0x80 0xbf 1) ++
    replicate 1 (Tail 0x90 0xbf 2) ++
    replicate 3 (Tail 0x80 0xbf 2) ++
    replicate 1 (Tail 0x80 0x8f 2) ++
    replicate 11 Invalid
