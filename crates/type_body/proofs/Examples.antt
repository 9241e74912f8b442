-- What the definitions of bodies, of what follows them and of singleton records give for bytes that are written out.
use Rattle.std.specs.Prelude.{ℕ, ◌-◌, ◌^◌, ◌≡◌, refl, List, [], ◌∷◌, ◌++◌, true, false, Some, None}
use Rattle.util.specs.LittleEndian.{little_endian, bytes_at, little_at, twos_complement, signed_at, unsigned_in, signed_in}
use Rattle.util.specs.Pointer.{relative_pointer, relative_address}
use Rattle.segment.specs.Segments.{segments_of, file_offset, decides, in_file}
use Rattle.context.specs.Context.{kind_of}
use Rattle.runtime.specs.Reads.{within, bytes_place, run}
use Rattle.type_body.specs.Body.{fixed, resilient, of_class, of_struct, of_enum, class_body, struct_body, enum_body, body_bytes, body}
use Rattle.type_body.specs.Singleton.{initialization, slot_target, targets, singleton_init, singleton_pointer}
use Rattle.type_body.specs.Items.{start_below, trailers}

-- offset 16; offset -4 or a size; extra flags or a size; 5 immediate members, 7 fields, word 10
abbrev class : List ℕ
class = 16 ∷ 0 ∷ 0 ∷ 0 ∷ 0xfc ∷ 0xff ∷ 0xff ∷ 0xff ∷ 3 ∷ 0 ∷ 0 ∷ 0 ∷ 5 ∷ 0 ∷ 0 ∷ 0 ∷ 7 ∷ 0 ∷ 0 ∷ 0 ∷ 10 ∷ 0 ∷ 0 ∷ 0 ∷ []

-- numbers 2 and 9
abbrev pub two : List ℕ
two = 2 ∷ 0 ∷ 0 ∷ 0 ∷ 9 ∷ 0 ∷ 0 ∷ 0 ∷ []

-- 0x05000003, and 4
abbrev packed : List ℕ
packed = 3 ∷ 0 ∷ 0 ∷ 5 ∷ 4 ∷ 0 ∷ 0 ∷ 0 ∷ []

-- the bytes of a descriptor that all kinds have
abbrev pub base : List ℕ
base = 0 ∷ 0 ∷ 0 ∷ 0 ∷ 0 ∷ 0 ∷ 0 ∷ 0 ∷ 0 ∷ 0 ∷ 0 ∷ 0 ∷ 0 ∷ 0 ∷ 0 ∷ 0 ∷ 0 ∷ 0 ∷ 0 ∷ 0 ∷ []

-- an image at address 0x1000
abbrev pub low_segment : List ℕ
low_segment = 0x1000 ∷ 64 ∷ 0 ∷ 64 ∷ []

-- an image whose addresses end at 2^64 - 2
abbrev pub high_segment : ℕ → List ℕ
high_segment n = (2 ^ 64 - 1 - n) ∷ n ∷ 0 ∷ 64 ∷ []

-- three offsets
abbrev pub three_offsets : ℕ → ℕ → ℕ → List ℕ
three_offsets a b c = a ∷ 0 ∷ 0 ∷ 0 ∷ b ∷ 0 ∷ 0 ∷ 0 ∷ c ∷ 0 ∷ 0 ∷ 0 ∷ []

pub record Bodies : Type 0 where
  pub plain_class : class_body 0x1000 0x00000010 class ≡ of_class 0x1024 (fixed 0xfffffffc 3) 5 7 10
  pub resilient_class : class_body 0x1000 0x20000010 class ≡ of_class 0x1024 (resilient 0x1014 3) 5 7 10
  pub no_offsets : class_body 0x1000 0x20000010 (base ++ (0 ∷ 0 ∷ 0 ∷ 0 ∷ [])) ≡ of_class 0 (resilient 0 0) 0 0 0
  pub of_struct_lem : struct_body two ≡ of_struct 2 9
  pub of_enum_lem : enum_body packed ≡ of_enum 3 5 4
  -- by the image and the flags
  pub class_read : run (base ++ class) low_segment (body 0x1000 0xc0000010) ≡ Some (of_class 0x1024 (fixed 0xfffffffc 3) 5 7 10)
  pub struct_read : run (base ++ two) low_segment (body 0x1000 0x51) ≡ Some (of_struct 2 9)
  pub enum_read : run (base ++ packed) low_segment (body 0x1000 0x12) ≡ Some (of_enum 3 5 4)
  pub class_short : run (base ++ two) low_segment (body 0x1000 0x10) ≡ None
  pub module_none : (image segments : List ℕ) (a : ℕ) → run image segments (body a 0x20000000) ≡ None
  pub other_none : (image segments : List ℕ) (a : ℕ) → run image segments (body a 19) ≡ None
  -- the last address of a struct, and the next one
  pub last : run two (high_segment 8) (body (2 ^ 64 - 29) 17) ≡ Some (of_struct 2 9)
  pub past_last : (image segments : List ℕ) → run image segments (body (2 ^ 64 - 28) 17) ≡ None
  pub past_last_class : (image segments : List ℕ) → run image segments (body (2 ^ 64 - 44) 16) ≡ None
  -- what follows
  pub after_plain : trailers 0x1000 0x10 (Some (of_class 0x1024 (fixed 1 3) 5 7 10)) ≡ Some (record { trailing = record { flags = 0x10; is_class = true; extra = 0 }; start = 0x102c })
  pub after_resilient : trailers 0x1000 0x20000010 (Some (of_class 0x1024 (resilient 0x1014 3) 5 7 10))
      ≡ Some (record { trailing = record { flags = 0x20000010; is_class = true; extra = 3 }; start = 0x102c })
  pub after_struct : trailers 0x1000 0x11 (Some (of_struct 2 9)) ≡ Some (record { trailing = record { flags = 0x11; is_class = false; extra = 0 }; start = 0x101c })
  pub after_enum : trailers 0x1000 0x12 (Some (of_enum 3 5 4)) ≡ Some (record { trailing = record { flags = 0x12; is_class = false; extra = 0 }; start = 0x101c })
  -- singletons
  pub three : run (three_offsets 1 2 3) low_segment (singleton_init 0x1000) ≡ Some (initialization 0x1001 0x1006 0x100b)
  pub zeros : run (three_offsets 0 0 0) low_segment (singleton_init 0x1000) ≡ Some (initialization 0 0 0)
  -- the second slot of this one lies at 2^64
  pub zeros_past : run (three_offsets 9 0 0) (high_segment 3) (singleton_init (2 ^ 64 - 4)) ≡ Some (initialization 5 0 0)
  pub incomplete_past : run (three_offsets 9 1 0) (high_segment 3) (singleton_init (2 ^ 64 - 4)) ≡ None
  pub completion_past : run (three_offsets 9 0 1) (high_segment 3) (singleton_init (2 ^ 64 - 4)) ≡ None
  pub pointer : run (three_offsets 0x20 0 0) low_segment (singleton_pointer 0x1000) ≡ Some 0x1020
  pub no_pointer : run (three_offsets 0 7 7) low_segment (singleton_pointer 0x1000) ≡ Some 0

pub bodies : Bodies
unfolding little_endian bytes_at little_at twos_complement signed_at unsigned_in signed_in relative_pointer relative_address segments_of file_offset decides in_file kind_of within bytes_place run class_body struct_body enum_body body_bytes body slot_target targets singleton_init singleton_pointer start_below
bodies =
    record {
      plain_class = refl;
      resilient_class = refl;
      no_offsets = refl;
      of_struct_lem = refl;
      of_enum_lem = refl;
      class_read = refl;
      struct_read = refl;
      enum_read = refl;
      class_short = refl;
      module_none = λ image segments a. refl;
      other_none = λ image segments a. refl;
      last = refl;
      past_last = λ image segments. refl;
      past_last_class = λ image segments. refl;
      after_plain = refl;
      after_resilient = refl;
      after_struct = refl;
      after_enum = refl;
      three = refl;
      zeros = refl;
      zeros_past = refl;
      incomplete_past = refl;
      completion_past = refl;
      pointer = refl;
      no_pointer = refl;
    }
