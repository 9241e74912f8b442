-- A type row: docs/SPECIFICATION.md, "Type rows"; Metadata.h, `TargetTypeContextDescriptor` (flags, parent and name of `TargetContextDescriptor`
-- and its subclass, relative pointers of four bytes each).
use Rattle.std.specs.Prelude.{ℕ, ◌+◌, ◌^◌, cond, List, nat_le, Option, option_map}
use Rattle.util.specs.LittleEndian.{unsigned_in, signed_in}
use Rattle.util.specs.Pointer.{relative_pointer, relative_address}
use Rattle.util.specs.declared.cstr.Place.{Place}
use Rattle.util.specs.Cstr.{part_of}
use Rattle.runtime.specs.Reads.{Reads, done, nothing, bytes, text}
use Rattle.typedescriptor.specs.declared.descriptor.Row.{Row}

pub record TypeRow : Type 0 where
  pub address : ℕ
  pub flags : ℕ
  -- the parent context's address, 0 if there is none
  pub parent : ℕ
  -- where the name lies in the image, and its bytes
  pub name : Place
  pub name_bytes : List ℕ

-- the name's bytes are those of its place
abbrev pub type_row : ℕ → List ℕ → Place → List ℕ → TypeRow
type_row a h p t =
    record {
      address = a;
      flags = unsigned_in 4 h 0;
      parent = relative_address (a + 4) (signed_in 4 h 4);
      name = p;
      name_bytes = t;
    }

-- the address of the name, from the descriptor's 20 bytes. An offset of 0 is no exception: it refers to its own slot.
abbrev pub name_address : ℕ → List ℕ → ℕ
name_address a h = relative_pointer (a + 8) (signed_in 4 h 8)

-- what is read after the 20 bytes: the name. A descriptor at or above 2^64 - 8 has no slot for it.
unfoldable pub row_name : ℕ → List ℕ → Reads TypeRow
row_name a h = cond (nat_le (2 ^ 64) (a + 8)) nothing (text (name_address a h) (λ p t. done (type_row a h p t)))

-- a descriptor has 20 bytes: flags at 0, the parent's offset at 4, the name's at 8
unfoldable pub descriptor : ℕ → Reads TypeRow
descriptor a = bytes a 20 (row_name a)

-- what a call's row says, for the image that it was read from
abbrev pub row_of : List ℕ → Row → TypeRow
row_of image r =
    record {
      address = r.address;
      flags = r.flags;
      parent = r.parent;
      name = r.name;
      name_bytes = part_of image r.name;
    }

abbrev pub descriptor_of : List ℕ → Option Row → Option TypeRow
descriptor_of image o = option_map (row_of image) o
