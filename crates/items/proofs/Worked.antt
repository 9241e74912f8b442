-- How the worked images are written down: an image at 0x1000, and tables of what its items read and say.
use Rattle.std.specs.Prelude.{ℕ, ◌≡◌, List, [], ◌∷◌, map, true, false, take, Option}
use Rattle.runtime.specs.Reads.{Range, run, path}
use Rattle.items.specs.Keys.{Sections, Key, Answer}
use Rattle.items.specs.Items.{item}

-- in each row the second is what f gives for the first: one computation over the whole table
abbrev pub Table : {A B : Type 0} → (A → B) → List (A × B) → Type 0
Table f rows = map (λ r. f r.0) rows ≡ map (λ r. r.1) rows

-- a u32 of one byte
abbrev pub small_u32 : ℕ → List ℕ
small_u32 n = n ∷ 0 ∷ 0 ∷ 0 ∷ []

-- a file of n bytes, laid at 0x1000
abbrev pub laid : ℕ → List ℕ
laid n = 0x1000 ∷ n ∷ 0 ∷ n ∷ []

-- types at 0x2000: one slot, whose offset is 0x1000 + n - 0x2000; no fields
abbrev pub one_slot : ℕ → Sections
one_slot n = record { types = n ∷ 0xf0 ∷ 0xff ∷ 0xff ∷ []; types_start = 0x2000; fields = []; fields_start = 0 }

-- bytes from an offset up to another, and a text
abbrev pub bytes_to : ℕ → ℕ → Range
bytes_to o e = record { from = o; to = e; is_text = false }

abbrev pub text_to : ℕ → ℕ → Range
text_to o e = record { from = o; to = e; is_text = true }

-- of a row at offset 4: its descriptor's 20 bytes, and a name of three letters with its NUL at offset 0
abbrev pub row_reads : List Range
row_reads = bytes_to 4 24 ∷ text_to 0 4 ∷ []

-- what an item reads, and what it says, also in the first c bytes
abbrev pub read_by : List ℕ → List ℕ → Sections → Key → List Range
read_by image segments s k = path image segments (item s k)

abbrev pub told_by : List ℕ → List ℕ → Sections → Key → Option Answer
told_by image segments s k = run image segments (item s k)

abbrev pub cut_to : List ℕ → List ℕ → Sections → ℕ × Key → Option Answer
cut_to image segments s ck = told_by (take ck.0 image) segments s ck.1
