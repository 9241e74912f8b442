-- The paths of field descriptors and records (docs/SPECIFICATION.md, "Items, paths and the cut"), as equations; and what they say, by examples.
use Rattle.std.specs.Prelude.{◌≡◌, ℕ, List, [], ◌∷◌, ◌++◌, refl, Option, Some, None}
use Rattle.std.proofs.Common.{sym, ◌∙◌}
use Rattle.util.specs.LittleEndian.{little_endian, bytes_at, little_at, twos_complement, signed_at, unsigned_in, signed_in}
use Rattle.util.specs.Pointer.{relative_pointer, relative_address}
use Rattle.segment.specs.Segments.{segments_of, decides, in_file, file_offset}
use Rattle.context.specs.Field.{field_kind}
use Rattle.context.specs.declared.field.FieldDescriptorKind.{FieldDescriptorKind}
use Rattle.runtime.specs.Reads.{bind, within, bytes_place, run, path}
use Rattle.runtime.proofs.ReadsLaws.{path_bind}
use Rattle.runtime.proofs.PathLaws.{path_done, path_nothing}
use Rattle.vtable.specs.Entries.{entry_size, Entry, entry_at, up_to, entry}
use Rattle.vtable.proofs.PathLaws.{ranges, entry_path, sample_image, sample_segments, high_segments}
use Rattle.field.specs.declared.iter.FieldDescriptor.{FieldDescriptor}
use Rattle.field.specs.Fields.{Step, field_step, descriptor_from, given, descriptor_at}
use Rattle.field.specs.Records.{record_layout, field_record, records_base, descriptor_record}
use Rattle.field.proofs.RecordsLaws.{record_of}

module _ (image segments fields : List ℕ) (vmaddr : ℕ) where
  no_path : (x : Option FieldDescriptor) → path image segments (given x) ≡ []
  no_path None = path_nothing FieldDescriptor image segments
  no_path (Some d) = path_done image segments d

  -- a descriptor reads no byte of the image
  pub descriptor_path : (k : ℕ) → path image segments (descriptor_at fields vmaddr k) ≡ []
  unfolding descriptor_at
  descriptor_path k = no_path (descriptor_from fields vmaddr 0 k)

  -- a record that can be read: the 12 bytes of each record 0 to `k`
  pub record_path : (j k : ℕ) (d : FieldDescriptor) (e : Entry) → run image segments (descriptor_at fields vmaddr j) ≡ Some d
      → run image segments (descriptor_record fields vmaddr j k) ≡ Some e
      → path image segments (descriptor_record fields vmaddr j k) ≡ ranges segments (record_layout d.field_record_size) (records_base d.address) k
  unfolding descriptor_record
  record_path j k d e there is =
      path_bind image segments (λ x. field_record (records_base x.address) x.field_record_size x.num_fields k) (descriptor_at fields vmaddr j)
      ∙ rw (descriptor_path j, there)
      (entry_path image segments (record_layout d.field_record_size) (records_base d.address) d.num_fields k e
      (sym (record_of image segments d fields vmaddr j there k) ∙ is))

-- ---- by examples

-- a header: the type name 16 before itself, the superclass 8 after its slot, a class
abbrev head : ℕ → ℕ → List ℕ
head size count = 240 ∷ 255 ∷ 255 ∷ 255 ∷ 8 ∷ 0 ∷ 0 ∷ 0 ∷ 1 ∷ 0 ∷ size ∷ 0 ∷ count ∷ 0 ∷ 0 ∷ 0 ∷ []

-- what it says at an address
abbrev says : ℕ → ℕ → ℕ → ℕ → ℕ → FieldDescriptor
says a name super size count =
    record {
      address = a;
      mangled_type_name_va = name;
      superclass_va = super;
      kind = FieldDescriptorKind.Class;
      field_record_size = size;
      num_fields = count;
    }

abbrev stands : Option FieldDescriptor → ℕ → Step
stands x at = record { found = x; next = at }

-- record 1 of two at address 4096 of an image of 25 bytes
abbrev second : ℕ → Option Entry
second size = run (sample_image ++ (0 ∷ [])) sample_segments (field_record 4096 size 2 1)

abbrev answered : ℕ → List ℕ → Option Entry
answered a xs = Some (record { address = a; words = xs })

-- the first record at an address up to 2^64 - 2
abbrev high : ℕ → Option Entry
high base = run (sample_image ++ sample_image) high_segments (field_record base 12 1 0)

pub record RecordPathsWorked : Type 0 where
  -- a record has 12 bytes whatever the record size
  pub twelve : (size : ℕ) → entry_size (record_layout size) ≡ 12
  -- one record of 12 bytes, and one byte less: the walk stays
  pub fits : field_step (head 12 1 ++ (0 ∷ 0 ∷ 0 ∷ 0 ∷ 0 ∷ 0 ∷ 0 ∷ 0 ∷ 0 ∷ 0 ∷ 0 ∷ 0 ∷ [])) 4096 0 ≡ stands (Some (says 4096 4080 4108 12 1)) 28
  pub overrun : field_step (head 12 1 ++ (0 ∷ 0 ∷ 0 ∷ 0 ∷ 0 ∷ 0 ∷ 0 ∷ 0 ∷ 0 ∷ 0 ∷ 0 ∷ [])) 4096 0 ≡ stands None 0
  pub short_header : field_step (head 12 0 ++ (0 ∷ [])) 4096 2 ≡ stands None 2
  -- records of 11 and of 13 bytes are passed by their size, and records of size 0 have no bytes
  pub eleven : field_step (head 11 2 ++ sample_image) 4096 0 ≡ stands (Some (says 4096 4080 4108 11 2)) 38
  pub thirteen : field_step (head 13 1 ++ sample_image) 4096 0 ≡ stands (Some (says 4096 4080 4108 13 1)) 29
  pub none_wide : field_step (head 0 255) 4096 0 ≡ stands (Some (says 4096 4080 4108 0 255)) 16
  -- a header at 2^64 - 4 is passed and gives nothing; one at 2^64 - 5 is a descriptor
  pub last_four : field_step (head 12 0) 18446744073709551612 0 ≡ stands None 16
  pub last_five : field_step (head 12 0) 18446744073709551611 0 ≡ stands (Some (says 18446744073709551611 18446744073709551595 7 12 0)) 16
  -- descriptors by number: the address is modulo 2^64; a list ends at the first header that gives nothing
  pub first : run [] [] (descriptor_at (head 12 0 ++ head 0 3) 18446744073709551600 0) ≡ Some (says 18446744073709551600 18446744073709551584 18446744073709551612 12 0)
  pub wrapped : run [] [] (descriptor_at (head 12 0 ++ head 0 3) 18446744073709551600 1) ≡ Some (says 0 18446744073709551600 12 0 3)
  pub no_third : run [] [] (descriptor_at (head 12 0 ++ head 0 3) 18446744073709551600 2) ≡ None
  pub list_ends : run [] [] (descriptor_at (head 12 0 ++ head 0 3) 18446744073709551612 1) ≡ None
  -- records from address + 16 on, from 0 if that is 2^64 or more
  pub base_last : records_base 18446744073709551599 ≡ 18446744073709551615
  pub base_zero : records_base 18446744073709551600 ≡ 0
  pub base_past : records_base 18446744073709551608 ≡ 0
  -- a record that lies in the section and not in the image cannot be read: records are read from the image
  pub from_the_image : run [] [] (descriptor_record (head 12 1 ++ sample_image) 4096 0 0) ≡ None
  -- record 1 of size 0 is record 0; of size 11, 12 and 13 it is at 11, 12 and 13
  pub record_0 : second 0 ≡ answered 4096 (16 ∷ (4096 ∷ (67310089 ∷ [])))
  pub record_11 : second 11 ≡ answered 4107 (4 ∷ (6159 ∷ (69651 ∷ [])))
  pub record_12 : second 12 ≡ answered 4108 (0 ∷ (4120 ∷ (4372 ∷ [])))
  pub record_13 : second 13 ≡ answered 4109 (134217728 ∷ (0 ∷ (4118 ∷ [])))
  pub no_record_14 : second 14 ≡ None
  -- at 2^64 - 9 the third word lies below 2^64, at 2^64 - 8 it does not
  pub high_record : high 18446744073709551607 ≡ answered 18446744073709551607 (2048 ∷ (65531 ∷ (4095 ∷ [])))
  pub no_record : high 18446744073709551608 ≡ None

pub record_paths_worked : RecordPathsWorked
unfolding run bytes_place within segments_of file_offset decides in_file entry up_to entry_at bind unsigned_in signed_in little_at signed_at bytes_at little_endian twos_complement relative_address relative_pointer field_kind field_step descriptor_from descriptor_at descriptor_record
record_paths_worked =
    record {
      twelve = λ size. refl;
      fits = refl;
      overrun = refl;
      short_header = refl;
      eleven = refl;
      thirteen = refl;
      none_wide = refl;
      last_four = refl;
      last_five = refl;
      first = refl;
      wrapped = refl;
      no_third = refl;
      list_ends = refl;
      base_last = refl;
      base_zero = refl;
      base_past = refl;
      from_the_image = refl;
      record_0 = refl;
      record_11 = refl;
      record_12 = refl;
      record_13 = refl;
      no_record_14 = refl;
      high_record = refl;
      no_record = refl;
    }
