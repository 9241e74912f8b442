-- The bundle's format: docs/SPECIFICATION.md, "Bundles". Records obey its rules, their bytes follow one another, and
-- each kind has its place in them.
use Rattle.std.specs.Prelude.{ℕ, zero, suc, ◌+◌, ◌-◌, ◌%◌, ◌/◌, ◌≤◌, ◌<◌, ◌≡◌, Bool, true, cond, ◌⊎◌, length, get_or, take, drop, leb, ltb, eqb}
use mathlib.Core.List.{List, [], ◌∷◌, ◌++◌, map, Memᴰ}
use Rattle.util.specs.LittleEndian.{little_endian}
use Rattle.util.specs.Cstr.{place}
use Rattle.util.specs.declared.cstr.Place.{Place}
use Rattle.bundle.specs.declared.open.Section.{Section}
use Rattle.bundle.specs.declared.open.Layout.{Layout}

pub record Record : Type 0 where
  pub kind : ℕ
  pub body : List ℕ

abbrev pub Bytes : List ℕ → Type 0
Bytes s = (i : ℕ) → get_or s i 0 < 256

-- the lowest `w` bytes of a number, the lowest first
unfoldable pub little_bytes : ℕ → ℕ → List ℕ
little_bytes zero n = []
little_bytes (suc w) n = n % 256 ∷ little_bytes w (n / 256)

-- a u32 body length, a u16 kind, the body
unfoldable pub encoded : Record → List ℕ
encoded r = little_bytes 4 (length r.body) ++ little_bytes 2 r.kind ++ r.body

-- the records one after the other
unfoldable pub bundle_bytes : List Record → List ℕ
bundle_bytes [] = []
bundle_bytes (r ∷ rs) = encoded r ++ bundle_bytes rs

-- how long a body may be: segments of 32 bytes; types, fields and strings led by an address of 8; an image of any length
unfoldable pub body_fits : ℕ → ℕ → Bool
body_fits kind n = cond (eqb kind 2) (eqb (n % 32) 0) (cond (ltb kind 3) true (leb 8 n))

-- kinds that rise strictly, from above `last` to at most 5, each body as long as it may be
pub data Rising : ℕ → List Record → Type 0 where
  done : {last : ℕ} → Rising last []
  next : {last : ℕ} {r : Record} {rs : List Record} → last < r.kind → r.kind ≤ 5 → body_fits r.kind (length r.body) ≡ true → Rising r.kind rs → Rising last (r ∷ rs)

abbrev pub kinds : List Record → List ℕ
kinds rs = map (λ (r : Record). r.kind) rs

-- the rules: there are no records, or an image is among them; no other kind is required
pub record Obeys (rs : List Record) : Type 0 where
  pub rising : Rising 0 rs
  pub image : (rs ≡ []) ⊎ Memᴰ 1 (kinds rs)

-- where the body of a kind lies, the first record's header being at `at`; all zeros if the kind is missing
unfoldable pub body_place : ℕ → ℕ → List Record → Place
body_place kind at [] = place 0 0
body_place kind at (r ∷ rs) = cond (eqb r.kind kind) (place (at + 6) (length r.body)) (body_place kind (at + 6 + length r.body) rs)

-- the address at the start of a led body, and the bytes after it; all zeros if there is no such body
unfoldable pub section_in : List ℕ → Place → Section
section_in s p =
    cond (leb 8 p.size)
    (record { address = little_endian (take 8 (drop p.start s)); part = place (p.start + 8) (p.size - 8) })
    (record { address = 0; part = place 0 0 })

-- a layout from the places of the five bodies
abbrev pub layout_in : List ℕ → Place → Place → Place → Place → Place → Layout
layout_in s image segments types fields strings =
    record { image = image; segments = segments; types = section_in s types; fields = section_in s fields; strings = section_in s strings }

unfoldable pub layout_of : List Record → Layout
layout_of rs = layout_in (bundle_bytes rs) (body_place 1 0 rs) (body_place 2 0 rs) (body_place 3 0 rs) (body_place 4 0 rs) (body_place 5 0 rs)
