-- The fields section: docs/SPECIFICATION.md, "Fields"; RemoteInspection/Records.h, `FieldDescriptor`. One descriptor after the other, each a
-- header of 16 bytes and its records.
use Rattle.std.specs.Prelude.{ℕ, zero, suc, ◌+◌, ◌*◌, ◌%◌, ◌^◌, cond, List, length, take, drop, nat_le, nat_lt, Option, Some, None}
use Rattle.util.specs.LittleEndian.{unsigned_in, signed_in}
use Rattle.util.specs.Pointer.{relative_address}
use Rattle.context.specs.Field.{field_kind}
use Rattle.runtime.specs.Reads.{Reads, done, nothing, and_then}
use Rattle.field.specs.declared.iter.FieldDescriptor.{FieldDescriptor}
use Rattle.field.specs.declared.iter.FieldStep.{FieldStep}

-- what the 16 bytes of a header say, at an address
abbrev pub field_descriptor_of : ℕ → List ℕ → FieldDescriptor
field_descriptor_of a h =
    record {
      address = a;
      mangled_type_name_va = relative_address a (signed_in 4 h 0);
      superclass_va = relative_address (a + 4) (signed_in 4 h 4);
      kind = field_kind (unsigned_in 2 h 8);
      field_record_size = unsigned_in 2 h 10;
      num_fields = unsigned_in 4 h 12;
    }

-- the header at an offset of the section
abbrev pub header_bytes : List ℕ → ℕ → List ℕ
header_bytes fields at = take 16 (drop at fields)

-- where the header and its records end
abbrev pub records_end : List ℕ → ℕ → ℕ
records_end fields at = at + (16 + unsigned_in 4 (header_bytes fields at) 12 * unsigned_in 2 (header_bytes fields at) 10)

-- there is no descriptor if the address of the superclass's offset, at 4, reaches 2^64
abbrev pub header_descriptor : ℕ → List ℕ → Option FieldDescriptor
header_descriptor a h = cond (nat_le (2 ^ 64) (a + 4)) None (Some (field_descriptor_of a h))

-- a step from an offset on: a descriptor or none, and where the walk then stands
pub record Step : Type 0 where
  pub found : Option FieldDescriptor
  pub next : ℕ

-- the walk stays where it is if no header is left, or if the records overrun the section; otherwise it moves past them, whether the
-- header is a descriptor or not. The header's address is modulo 2^64
unfoldable pub field_step : List ℕ → ℕ → ℕ → Step
field_step fields vmaddr at =
    cond (nat_lt (length fields) (at + 16)) (record { found = None; next = at })
    (cond (nat_lt (length fields) (records_end fields at)) (record { found = None; next = at })
    (record { found = header_descriptor ((vmaddr + at) % 2 ^ 64) (header_bytes fields at); next = records_end fields at }))

-- descriptor `k` from an offset on: a list ends at the first step without a descriptor
unfoldable pub descriptor_from : List ℕ → ℕ → ℕ → ℕ → Option FieldDescriptor
descriptor_from fields vmaddr at zero = (field_step fields vmaddr at).found
descriptor_from fields vmaddr at (suc k) =
    and_then (field_step fields vmaddr at).found (λ _. descriptor_from fields vmaddr (field_step fields vmaddr at).next k)

abbrev pub given : {A : Type 0} → Option A → Reads A
given None = nothing
given (Some a) = done a

-- descriptor `k` of the section: it reads no byte of the image
unfoldable pub descriptor_at : List ℕ → ℕ → ℕ → Reads FieldDescriptor
descriptor_at fields vmaddr k = given (descriptor_from fields vmaddr 0 k)

-- a step's answer
abbrev pub field_step_of : FieldStep → Step
field_step_of s = record { found = s.found; next = s.next.at }
