-- The language of reads. The answer of a call is defined as a program that reads bytes and texts of an image at
-- addresses: `run` is the program's answer, `path` the image bytes that it depends on.
use Rattle.std.specs.Prelude.{ℕ, zero, suc, ◌+◌, ◌-◌, ◌≤◌, ◌<◌, min, max, ◌≡◌, ◌⊎◌, List, [], ◌∷◌, Bool, true, false, cond, ◌&&◌, length, take, drop, leb, eqb, Option, Some, None}
use Rattle.segment.specs.Segments.{segments_of, file_offset}
use Rattle.utf8.specs.Text.{until_nul}
use Rattle.util.specs.declared.cstr.Place.{Place}
use Rattle.util.specs.Cstr.{text_at}

pub data Reads (A : Type 0) : Type 0 where
  -- the answer
  done : A → Reads A
  -- no answer
  nothing : Reads A
  -- a number of bytes from an address on
  bytes : ℕ → ℕ → (List ℕ → Reads A) → Reads A
  -- the text at an address: its place in the image, and its bytes
  text : ℕ → (Place → List ℕ → Reads A) → Reads A

abbrev pub and_then : {A B : Type 0} → Option A → (A → Option B) → Option B
and_then None f = None
and_then (Some a) f = f a

-- docs/SPECIFICATION.md, "Bytes and texts at an address": the first address is translated, the bytes follow in the image
unfoldable pub within : ℕ → ℕ → ℕ → Option ℕ
within size n o = cond (leb (o + n) size) (Some o) None

unfoldable pub bytes_place : List ℕ → List ℕ → ℕ → ℕ → Option ℕ
bytes_place image segments address n = and_then (file_offset (segments_of segments) address) (within (length image) n)

-- `read_cstr`: the offset at which a text is looked up; address 0 has none
unfoldable pub text_offset : List ℕ → ℕ → Option ℕ
text_offset segments address = cond (eqb address 0) None (file_offset (segments_of segments) address)

-- and where it then is
unfoldable pub text_place : List ℕ → List ℕ → ℕ → Option Place
text_place image segments address = and_then (text_offset segments address) (text_at image)

unfoldable pub run : {A : Type 0} → List ℕ → List ℕ → Reads A → Option A
run image segments (done a) = Some a
run image segments nothing = None
run image segments (bytes address n k) =
    and_then (bytes_place image segments address n) (λ o. run image segments (k (take n (drop o image))))
run image segments (text address k) =
    and_then (text_offset segments address)
    (λ o. and_then (text_at image o) (λ p. run image segments (k p (until_nul (drop o image)))))

-- image bytes from `from` up to but not including `to`, and whether they were looked up as a text
pub record Range : Type 0 where
  pub from : ℕ
  pub to : ℕ
  pub is_text : Bool

-- how many bytes a text takes that is looked up in these bytes, found or not: up to and including its NUL, or all
-- bytes if there is none; one if there are no bytes at all
unfoldable pub extent : List ℕ → ℕ
extent [] = 1
extent (zero ∷ s) = 1
extent (suc b ∷ []) = 1
extent (suc b ∷ (x ∷ s)) = suc (extent (x ∷ s))

abbrev pub bytes_range : ℕ → ℕ → Range
bytes_range o n = record { from = o; to = o + n; is_text = false }

abbrev pub text_range : List ℕ → ℕ → Range
text_range image o = record { from = o; to = o + extent (drop o image); is_text = true }

-- a text that was found, and its NUL: not past the image's end, and at least one byte
abbrev pub with_nul : List ℕ → Place → Range
with_nul image p =
    record {
      from = p.start;
      to = p.start + max 1 (min (length image - p.start) (p.size + 1));
      is_text = true;
    }

abbrev pub also : {A : Type 0} → Option A → (A → List Range) → List Range
also None f = []
also (Some a) f = f a

-- docs/SPECIFICATION.md, "Items, paths and the cut": the image bytes that the program reads, in order
unfoldable pub path : {A : Type 0} → List ℕ → List ℕ → Reads A → List Range
path image segments (done a) = []
path image segments nothing = []
path image segments (bytes address n k) =
    also (bytes_place image segments address n)
    (λ o. bytes_range o n ∷ path image segments (k (take n (drop o image))))
path image segments (text address k) =
    also (text_offset segments address)
    (λ o. text_range image o ∷ also (text_at image o) (λ p. path image segments (k p (until_nul (drop o image)))))

-- one program after another
unfoldable pub bind : {A B : Type 0} → Reads A → (A → Reads B) → Reads B
bind (done a) f = f a
bind nothing f = nothing
bind (bytes address n k) f = bytes address n (λ bs. bind (k bs) f)
bind (text address k) f = text address (λ p bs. bind (k p bs) f)

-- ---- what a premise asks of a path

-- P holds of each range
abbrev pub All : (Range → Type 0) → List Range → Type 0
All P [] = Unit {0}
All P (r ∷ rs) = P r × All P rs

abbrev pub every : (Range → Bool) → List Range → Bool
every t [] = true
every t (r ∷ rs) = t r && every t rs

-- the premise on texts of the same section: the cut does not fall into a text that is looked up
abbrev pub Clear : ℕ → Range → Type 0
Clear c r = r.is_text ≡ true → (c < r.from) ⊎ (r.to ≤ c)

-- the cut leaves the range whole
abbrev pub ends_by : ℕ → Range → Bool
ends_by c r = leb r.to c
