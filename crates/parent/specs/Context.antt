-- A context that encloses a type: docs/SPECIFICATION.md, "Contexts"; Metadata.h, `TargetContextDescriptor` (flags, and the
-- parent's relative pointer), and the names of its subclasses at offset 8.
use Rattle.std.specs.Prelude.{ℕ, ◌+◌, ◌^◌, ◌≤◌, List, cond, length, leb, eqb, Option, Some, None, option_map}
use Rattle.util.specs.LittleEndian.{unsigned_in, signed_in}
use Rattle.util.specs.Pointer.{relative_pointer, relative_address}
use Rattle.util.specs.declared.cstr.Place.{Place}
use Rattle.util.specs.Cstr.{part_of}
use Rattle.runtime.specs.Reads.{Reads, done, nothing, bytes, text, run}
use Rattle.context.specs.Context.{context_kind, has_name}
use Rattle.parent.specs.declared.header.ParentContext.{ParentContext}
use Rattle.parent.specs.declared.header.ContextHeader.{ContextHeader}

-- a name: where it lies in the image, and its bytes
pub record Name : Type 0 where
  pub place : Place
  pub bytes : List ℕ

-- what a context's header says
pub record Header : Type 0 where
  pub address : ℕ
  pub flags : ℕ
  pub parent : ℕ

-- the header has 8 bytes: flags at 0, the parent's offset at 4, whose slot must lie below 2^64
unfoldable pub header_in : ℕ → List ℕ → Reads Header
header_in a h =
    cond (leb (2 ^ 64) (a + 4)) nothing
    (done (record { address = a; flags = unsigned_in 4 h 0; parent = relative_address (a + 4) (signed_in 4 h 4) }))

-- address 0 is not a context
unfoldable pub header : ℕ → Reads Header
header a = cond (eqb a 0) nothing (bytes a 8 (header_in a))

-- the name's offset is a separate read, at the address + 8; offset 0 means no name
unfoldable pub slot_name : ℕ → List ℕ → Reads Name
slot_name v h =
    cond (eqb (unsigned_in 4 h 0) 0) nothing
    (text (relative_pointer v (signed_in 4 h 0)) (λ p t. done (record { place = p; bytes = t })))

-- if the slot lies below 2^64
unfoldable pub name_at : ℕ → Reads Name
name_at a = cond (leb (2 ^ 64) (a + 8)) nothing (bytes (a + 8) 4 (slot_name (a + 8)))

-- modules, extensions, protocols and the three types have a name
unfoldable pub name : ℕ → ℕ → Reads Name
name a flags = cond (has_name (context_kind flags)) (name_at a) nothing

unfoldable pub context_name : List ℕ → List ℕ → ℕ → ℕ → Option Name
context_name image segments a flags = run image segments (name a flags)

-- a context: its header, and its name if it has one
pub record Context : Type 0 where
  pub header : Header
  pub name : Option Name

-- a header's context: its name is read beside it
unfoldable pub with_name : List ℕ → List ℕ → Header → Context
with_name image segments h = record { header = h; name = context_name image segments h.address h.flags }

unfoldable pub context_read : List ℕ → List ℕ → ℕ → Option Context
context_read image segments a = option_map (with_name image segments) (run image segments (header a))

-- what the calls' answers say, for the image that they were read from
abbrev pub header_of : ℕ → Option ContextHeader → Option Header
header_of a o = option_map (λ h. record { address = a; flags = h.flags; parent = h.parent }) o

abbrev pub name_read : List ℕ → Option Place → Option Name
name_read image o = option_map (λ p. record { place = p; bytes = part_of image p }) o

-- a text that was read lies within the image
abbrev pub Inside : List ℕ → Option Place → Type 0
Inside image (Some p) = p.start + p.size ≤ length image
Inside image None = Unit

abbrev pub context_in : List ℕ → ParentContext → Context
context_in image c =
    record {
      header = record { address = c.address; flags = c.flags; parent = c.parent };
      name = name_read image c.name;
    }

abbrev pub context_of : List ℕ → Option ParentContext → Option Context
context_of image o = option_map (context_in image) o
