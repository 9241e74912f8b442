-- The texts that a listing looks up, by the addresses of names: docs/SPECIFICATION.md, "Items, paths and the cut". The premise of the cut
-- speaks of them (`ClearOf`); what the calls return for them is `Beside`.
use Rattle.std.specs.Prelude.{ℕ, ◌+◌, ◌^◌, List, ◌≡◌, cond, get_or, leb, eqb, Some}
use Rattle.util.specs.LittleEndian.{unsigned_in, signed_in}
use Rattle.util.specs.Pointer.{relative_pointer}
use Rattle.runtime.specs.Reads.{Reads, done, nothing, bytes, text, bind, text_offset, text_range, run, Clear}
use Rattle.context.specs.Context.{context_kind, has_name}
use Rattle.typedescriptor.specs.Row.{name_address}
use Rattle.typedescriptor.specs.Slots.{slot_descriptor, read_at}
use Rattle.type_body.specs.Body.{Body, of_class, of_struct, of_enum}
use Rattle.vtable.specs.Entries.{Entry}
use Rattle.field.specs.Fields.{descriptor_at}
use Rattle.field.specs.Records.{descriptor_record}
use Rattle.parent.specs.Context.{Name, Header}
use Rattle.items.specs.Keys.{Sections}
use Rattle.items.specs.Items.{map_reads, context_of_slot, body_of_slot}

-- the texts that a listing looks up: all of them are names
pub data NameKey : Type 0 where
  -- of the items themselves: of a slot's descriptor, of a context of a slot, of a field record by its descriptor's number and its own
  descriptor : ℕ → NameKey
  context : ℕ → ℕ → NameKey
  field : ℕ → ℕ → NameKey
  -- of other types: the superclass of a slot's class; the type of a field record; the type that a field descriptor is for, and its superclass
  superclass : ℕ → NameKey
  field_type : ℕ → ℕ → NameKey
  descriptor_type : ℕ → NameKey
  descriptor_superclass : ℕ → NameKey

-- a descriptor's name address, if its bytes can be read and its slot for the name lies below 2^64, whether the name can be read or not
unfoldable pub descriptor_name : ℕ → Reads ℕ
descriptor_name a = bytes a 20 (λ h. cond (leb (2 ^ 64) (a + 8)) nothing (done (name_address a h)))

unfoldable pub slot_name_address : Sections → ℕ → Reads ℕ
slot_name_address s i = read_at (slot_descriptor s.types s.types_start i) descriptor_name

-- a context's, if it has a name: from the offset at the address + 8, which is not 0
unfoldable pub context_name_at : Header → Reads ℕ
context_name_at h =
    cond (has_name (context_kind h.flags))
    (cond (leb (2 ^ 64) (h.address + 8)) nothing
    (bytes (h.address + 8) 4 (λ b. cond (eqb (unsigned_in 4 b 0) 0) nothing (done (relative_pointer (h.address + 8) (signed_in 4 b 0)))))) nothing

-- a field record's is its third word, its type's the second (no text is looked up at address 0)
abbrev pub record_name : Entry → ℕ
record_name e = get_or e.words 2 0

abbrev pub record_type_name : Entry → ℕ
record_type_name e = get_or e.words 1 0

-- a superclass's is a number of a class's body
abbrev pub superclass_at : Body → Reads ℕ
superclass_at (of_class a z m f v) = done a
superclass_at (of_struct f v) = nothing
superclass_at (of_enum p w e) = nothing

-- the address at which the name of a key is looked up
unfoldable pub name_of : Sections → NameKey → Reads ℕ
name_of s (NameKey.descriptor i) = slot_name_address s i
name_of s (NameKey.context i k) = bind (context_of_slot s i k) context_name_at
name_of s (NameKey.field j k) = map_reads record_name (descriptor_record s.fields s.fields_start j k)
name_of s (NameKey.superclass i) = bind (body_of_slot s i) superclass_at
name_of s (NameKey.field_type j k) = map_reads record_type_name (descriptor_record s.fields s.fields_start j k)
name_of s (NameKey.descriptor_type j) = map_reads (λ d. d.mangled_type_name_va) (descriptor_at s.fields s.fields_start j)
name_of s (NameKey.descriptor_superclass j) = map_reads (λ d. d.superclass_va) (descriptor_at s.fields s.fields_start j)

-- a text at an address: its place in the image, and its bytes
unfoldable pub lookup : ℕ → Reads Name
lookup a = text a (λ p t. done (record { place = p; bytes = t }))

-- the name of a key: what it reads is the path of its address, and then the text
unfoldable pub read_name : Sections → NameKey → Reads Name
read_name s n = bind (name_of s n) lookup

-- the cut does not fall into a text that is looked up at an address: it falls before its start, or at or after the end of its range
abbrev pub ClearAt : List ℕ → List ℕ → ℕ → ℕ → Type 0
ClearAt image segments c a = (o : ℕ) → text_offset segments a ≡ Some o → Clear c (text_range image o)

-- nor into the name of a key
abbrev pub ClearOf : List ℕ → List ℕ → Sections → ℕ → NameKey → Type 0
ClearOf image segments s c n = (a : ℕ) → run image segments (name_of s n) ≡ Some a → ClearAt image segments c a
