-- What the cut theorem claims of an item (docs/CUT.md).
use Rattle.std.specs.Prelude.{◌≡◌, ℕ, List, cond, take, None}
use Rattle.runtime.specs.Reads.{run, path, every, ends_by}
use Rattle.items.specs.Keys.{Sections, Key}
use Rattle.items.specs.Items.{item}

-- the claim: the image's first `c` bytes give the whole image's answer if every range of the item's path ends at or before `c`, else none
abbrev pub Claim : List ℕ → List ℕ → Sections → ℕ → Key → Type 0
Claim image segments s c k =
    run (take c image) segments (item s k) ≡ cond (every (ends_by c) (path image segments (item s k))) (run image segments (item s k)) None
