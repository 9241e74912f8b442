-- The entries of a table: docs/SPECIFICATION.md, "Entries"; Metadata.h, `TargetMethodDescriptor`, `TargetMethodOverrideDescriptor`,
-- `TargetMethodDefaultOverrideDescriptor`, and the canonical specialized metadata. One definition covers them all, over what the
-- words of an entry are.
use Rattle.std.specs.Prelude.{ℕ, zero, suc, ◌+◌, ◌-◌, ◌*◌, ◌^◌, cond, List, [], ◌∷◌, length, replicate, nat_le, nat_lt, slice_index, Option, Some, None}
use Rattle.std.specs.Borrow.{Bor}
use Rattle.util.specs.LittleEndian.{unsigned_in, signed_in}
use Rattle.util.specs.Pointer.{relative_address}
use Rattle.runtime.specs.Reads.{Reads, done, nothing, bytes, bind, run}
use Rattle.runtime.specs.Bytes.{bytes_read}
use Rattle.vtable.specs.declared.entry.EntryKind.{EntryKind}
use Rattle.vtable.specs.declared.entry.TableEntry.{TableEntry}
use Rattle.vtable.specs.declared.shape.Shape.{Shape}
pub use Rattle.vtable.specs.declared.shape.Word.{Word}
pub use Rattle.vtable.specs.declared.shape.Word.TheVariants.{Number as number, Pointer as pointer}
use Rattle.vtable.specs.declared.iter.EntryIter.{EntryIter}
use Rattle.vtable.specs.declared.iter.EntryStep.{EntryStep}
use Rattle.vtable.specs.declared.walk.MethodWalk.{MethodWalk}

-- what the words of an entry are, and how many bytes it is from its start to the next entry's
pub record Layout : Type 0 where
  pub words : List Word
  pub stride : ℕ

-- entries that follow one another without a gap
abbrev pub packed : List Word → Layout
packed ws = record { words = ws; stride = 4 * length ws }

-- method: flags and implementation; override: class, method and implementation; default override: method and implementation (the header has
-- three pointers, see docs/DIFFERENCES.md); prespecialization: the metadata
abbrev pub words_of : EntryKind → List Word
words_of EntryKind.Method = number ∷ pointer ∷ []
words_of EntryKind.Override = pointer ∷ pointer ∷ pointer ∷ []
words_of EntryKind.DefaultOverride = pointer ∷ pointer ∷ []
words_of EntryKind.Prespecialization = pointer ∷ []

-- a first word, and the pointers after it
abbrev pub shape_words : Shape → List Word
shape_words s = s.first ∷ replicate s.more pointer

abbrev pub kind_layout : EntryKind → Layout
kind_layout k = packed (words_of k)

abbrev pub method : Layout
method = kind_layout EntryKind.Method

abbrev pub override : Layout
override = kind_layout EntryKind.Override

abbrev pub default_override : Layout
default_override = kind_layout EntryKind.DefaultOverride

abbrev pub prespecialization : Layout
prespecialization = kind_layout EntryKind.Prespecialization

abbrev pub entry_size : Layout → ℕ
entry_size layout = 4 * length layout.words

-- what a word says, at an offset of an entry's bytes; the entry is at an address
abbrev pub word_at : Word → ℕ → ℕ → List ℕ → ℕ
word_at number a o h = unsigned_in 4 h o
word_at pointer a o h = relative_address (a + o) (signed_in 4 h o)

abbrev pub words_from : List Word → ℕ → ℕ → List ℕ → List ℕ
words_from [] a o h = []
words_from (w ∷ ws) a o h = word_at w a o h ∷ words_from ws a (o + 4) h

pub record Entry : Type 0 where
  pub address : ℕ
  pub words : List ℕ

-- the entry at an address that has these bytes
abbrev pub entry_of : Layout → ℕ → List ℕ → Entry
entry_of layout a h = record { address = a; words = words_from layout.words a 0 h }

-- the address of entry `k` of a table that starts at `base`
abbrev pub entry_address : Layout → ℕ → ℕ → ℕ
entry_address layout base k = base + layout.stride * k

-- entry `k` by itself: all its words lie below 2^64
unfoldable pub entry_at : Layout → ℕ → ℕ → Reads Entry
entry_at layout base k =
    cond (nat_le (2 ^ 64) (entry_address layout base k + (entry_size layout - 4))) nothing
    (bytes (entry_address layout base k) (entry_size layout) (λ h. done (entry_of layout (entry_address layout base k) h)))

-- entry `k` of a list: a list ends at its first unreadable entry, so the entries 0 to `k` are read
unfoldable pub up_to : Layout → ℕ → ℕ → Reads Entry
up_to layout base zero = entry_at layout base 0
up_to layout base (suc k) = bind (up_to layout base k) (λ _. entry_at layout base (suc k))

unfoldable pub entry : Layout → ℕ → ℕ → ℕ → Reads Entry
entry layout base count k = cond (nat_lt k count) (up_to layout base k) nothing

-- a walk: the table's start, how many entries it has, and the number of the next one. A walk starts at entry 0
abbrev pub start : ℕ → ℕ → EntryIter
start base count = record { base_va = base; count = count; next = 0 }

abbrev pub moved : EntryIter → EntryIter
moved c = record { base_va = c.base_va; count = c.count; next = c.next + 1 }

-- a single step, like the Rust's `next`: the entry, or that it is unreadable; the walk moves on past it in both cases
pub record Step : Type 0 where
  pub found : Option Entry
  pub next : EntryIter

unfoldable pub entry_step : List ℕ → List ℕ → Layout → EntryIter → Option Step
entry_step image segments layout c =
    cond (nat_lt c.next c.count) (Some (record { found = run image segments (entry_at layout c.base_va c.next); next = moved c })) None

-- the bytes of entry `k` of a table of entries of `size` bytes, `stride` bytes from one to the next, as the calls hand them on: none if
-- one of the entry's words, the last of which is at `size` - 4, does not lie below 2^64
unfoldable pub entry_bytes : List ℕ → List ℕ → ℕ → ℕ → ℕ → ℕ → List ℕ
entry_bytes image segments size stride base k =
    cond (nat_lt size 4) []
    (cond (nat_le (2 ^ 64) (base + stride * k + (size - 4))) [] (bytes_read image segments (base + stride * k) size))

-- an entry as a value of three words: a word that its kind does not have is 0
abbrev pub table_entry : Entry → TableEntry
table_entry e = record { address = e.address; first = slice_index e.words 0; second = slice_index e.words 1; third = slice_index e.words 2 }

-- the answer of a step
abbrev pub found_answer : Option Entry → EntryIter → EntryStep
found_answer None c = EntryStep.Unreadable c
found_answer (Some e) c = EntryStep.Entry (table_entry e) c

abbrev pub step_answer : Option Step → EntryStep
step_answer None = EntryStep.End
step_answer (Some s) = found_answer s.found s.next

-- the walk that holds the image and the segments
abbrev pub method_walk_from : EntryIter → Bor (List ℕ) → Bor (List ℕ) → MethodWalk
method_walk_from c image segments = record { cursor = c; image = image; segments = segments }
