-- Opening a bundle (docs/SPECIFICATION.md, "Bundles"), as a computation on its bytes: each kind in turn is taken if its record comes next.
-- A record of a kind that does not rise, or that breaks another rule, is not taken, and is left over at the end. `BundleLaws.sound` and
-- `BundleLaws.complete` say that the records of `Bundle` that obey the rules, and no other bytes, are opened, with their layout.
use Rattle.std.specs.Prelude.{ℕ, ◌+◌, ◌≤◌, List, Bool, cond, ◌&&◌, ◌||◌, length, take, drop, leb, ltb, eqb, Option, Some, None}
use Rattle.refusal.specs.Refusal.{Guarded, answered, refused}
use Rattle.util.specs.LittleEndian.{little_endian}
use Rattle.util.specs.Cstr.{place}
use Rattle.util.specs.declared.cstr.Place.{Place}
use Rattle.bundle.specs.Bundle.{body_fits, layout_in}
use Rattle.bundle.specs.declared.open.Layout.{Layout}
use Rattle.bundle.specs.declared.open.Taken.{Taken}

-- the body length and the kind in a header at an offset
abbrev pub size_at : List ℕ → ℕ → ℕ
size_at s at = little_endian (take 4 (drop at s))

abbrev pub kind_at : List ℕ → ℕ → ℕ
kind_at s at = little_endian (take 2 (drop (at + 4) s))

-- whether there is a record of this kind, not cut short, with a body that fits
unfoldable pub is_at : ℕ → List ℕ → ℕ → Bool
is_at kind s at = leb (at + 6 + size_at s at) (length s) && (eqb (kind_at s at) kind && body_fits kind (size_at s at))

-- that record's body
unfoldable pub body_at : ℕ → List ℕ → ℕ → Option Place
body_at kind s at = cond (is_at kind s at) (Some (place (at + 6) (size_at s at))) None

-- that record's body and the offset after it; all zeros and the same offset if there is none
unfoldable pub taken_at : ℕ → List ℕ → ℕ → Taken
taken_at kind s at =
    cond (is_at kind s at)
    (record { part = place (at + 6) (size_at s at); next = at + 6 + size_at s at })
    (record { part = place 0 0; next = at })

-- from what was taken for each kind: there must be an image, or no byte at all, and no byte may be left
unfoldable pub answer : List ℕ → Taken → Taken → Taken → Taken → Taken → Guarded Layout
answer s image segments types fields strings =
    cond ((ltb 0 image.part.start || eqb (length s) 0) && leb (length s) strings.next)
    (answered (layout_in s image.part segments.part types.part fields.part strings.part))
    (refused 2)

-- what is taken for each kind, from where the kind before it ends
abbrev pub image : List ℕ → Taken
image s = taken_at 1 s 0

abbrev pub segments : List ℕ → Taken
segments s = taken_at 2 s (image s).next

abbrev pub types : List ℕ → Taken
types s = taken_at 3 s (segments s).next

abbrev pub fields : List ℕ → Taken
fields s = taken_at 4 s (types s).next

abbrev pub strings : List ℕ → Taken
strings s = taken_at 5 s (fields s).next

-- how many bytes a bundle may have
abbrev pub bundle_most : ℕ
bundle_most = 65536

-- docs/SPECIFICATION.md, "Refusals": refusal 5 above that many bytes, then 2 for broken rules
unfoldable pub open_bundle : List ℕ → Guarded Layout
open_bundle s = cond (ltb bundle_most (length s)) (refused 5) (answer s (image s) (segments s) (types s) (fields s) (strings s))

-- a place that lies within the bytes
abbrev pub Within : List ℕ → Place → Type 0
Within s p = p.start + p.size ≤ length s
