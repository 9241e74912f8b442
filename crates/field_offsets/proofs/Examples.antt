-- What the definitions of field offsets give for bytes that are written out.
use Rattle.std.specs.Prelude.{ℕ, ◌-◌, ◌^◌, ◌≡◌, refl, List, [], ◌∷◌, ◌++◌, Some, None}
use Rattle.util.specs.LittleEndian.{little_endian, bytes_at, little_at, twos_complement, signed_at, unsigned_in, signed_in}
use Rattle.util.specs.Pointer.{relative_pointer, relative_address}
use Rattle.segment.specs.Segments.{segments_of, file_offset, decides, in_file}
use Rattle.context.specs.Context.{kind_of}
use Rattle.classtrailers.specs.Blocks.{row_at, below, block_at, record_at, end_at, passed, reached, block_in, block}
use Rattle.runtime.specs.Reads.{within, bytes_place, run, bind}
use Rattle.type_body.specs.Body.{fixed, of_class, of_struct, of_enum, struct_body, body_bytes, body}
use Rattle.type_body.specs.Singleton.{singleton_pointer}
use Rattle.type_body.proofs.Examples.{two, base, low_segment, high_segment, three_offsets}
use Rattle.field_offsets.specs.Offsets.{vector, u32s, field_offsets, offsets_place, offset_in, metadata_at, static_place}
use Rattle.field_offsets.proofs.OffsetsLaws.{static_offsets}

-- a struct of two fields, word 9, a singleton's initialization, a pointer whose lowest byte is `p` (0xbc: 68 bytes back), two offsets
abbrev static : ℕ → List ℕ
static p = base ++ (two ++ (three_offsets 0 0 0 ++ (p ∷ 0xff ∷ 0xff ∷ 0xff ∷ 0 ∷ 0 ∷ 0 ∷ 0 ∷ 16 ∷ 0 ∷ 0 ∷ 0 ∷ [])))

-- with a pointer of offset 0
abbrev no_metadata : List ℕ
no_metadata = base ++ (two ++ (three_offsets 0 0 0 ++ three_offsets 0 0 16))

pub record OffsetLists : Type 0 where
  -- the vector is at metadata + 8 for each word
  pub two_fields : run (three_offsets 0 16 99) low_segment (field_offsets (of_struct 2 1) 0xff8) ≡ Some (0 ∷ 16 ∷ [])
  pub word_nine : run (three_offsets 0 16 99) low_segment (field_offsets (of_struct 3 9) 0xfb8) ≡ Some (0 ∷ 16 ∷ 99 ∷ [])
  pub in_part : run (three_offsets 0 16 99) low_segment (field_offsets (of_struct 4 1) 0xff8) ≡ None
  pub of_a_class : (image segments : List ℕ) → run image segments (field_offsets (of_class 0 (fixed 0 0) 0 2 1) 0xff8) ≡ None
  pub of_an_enum : (image segments : List ℕ) → run image segments (field_offsets (of_enum 2 1 1) 0xff8) ≡ None
  pub word_zero : (image segments : List ℕ) → run image segments (field_offsets (of_struct 2 0) 0x1000) ≡ None
  pub address_zero : (image segments : List ℕ) → run image segments (field_offsets (of_struct 2 0x200) 0) ≡ None
  pub no_fields : (image segments : List ℕ) → run image segments (field_offsets (of_struct 0 1) 0xff8) ≡ None
  pub at_the_top : run (three_offsets 7 8 9) (high_segment 7) (field_offsets (of_struct 2 1) (2 ^ 64 - 16)) ≡ Some (7 ∷ 8 ∷ [])
  pub past_the_top : (image segments : List ℕ) → run image segments (field_offsets (of_struct 2 1) (2 ^ 64 - 8)) ≡ None
  -- by number
  pub placed : offsets_place (three_offsets 0 16 99) low_segment (Some (of_struct 2 1)) 0xff8 ≡ Some (record { place = 0; count = 2 })
  pub no_body : (image segments : List ℕ) → offsets_place image segments None 0xff8 ≡ None
  pub second : offset_in (three_offsets 0 16 99) (record { place = 0; count = 2 }) 1 ≡ Some 16
  pub third_of_two : offset_in (three_offsets 0 16 99) (record { place = 0; count = 2 }) 2 ≡ None
  pub made_up : offset_in (three_offsets 0 16 99) (record { place = 4; count = 2 }) 1 ≡ Some 99
  pub made_up_past : offset_in (three_offsets 0 16 99) (record { place = 4; count = 3 }) 0 ≡ None
  -- from the descriptor's own singleton pointer
  pub static_list : run (static 0xbc) low_segment (static_offsets 0x1000 0x00090011) ≡ Some (0 ∷ 16 ∷ [])
  pub static_placed : static_place (static 0xbc) low_segment 0x1000 0x00090011 ≡ Some (record { place = 44; count = 2 })
  pub static_short : static_place (static 0xbd) low_segment 0x1000 0x00090011 ≡ None
  pub static_no_block : static_place (static 0xbc) low_segment 0x1000 0x00010011 ≡ None
  pub static_no_metadata : static_place no_metadata low_segment 0x1000 0x00090011 ≡ None

pub offset_lists : OffsetLists
unfolding little_endian bytes_at little_at twos_complement signed_at unsigned_in signed_in relative_pointer relative_address segments_of file_offset decides in_file kind_of within bytes_place run bind row_at below block_at record_at end_at passed reached block_in block struct_body body_bytes body singleton_pointer vector u32s field_offsets offsets_place offset_in metadata_at static_offsets static_place
offset_lists =
    record {
      two_fields = refl;
      word_nine = refl;
      in_part = refl;
      of_a_class = λ image segments. refl;
      of_an_enum = λ image segments. refl;
      word_zero = λ image segments. refl;
      address_zero = λ image segments. refl;
      no_fields = λ image segments. refl;
      at_the_top = refl;
      past_the_top = λ image segments. refl;
      placed = refl;
      no_body = λ image segments. refl;
      second = refl;
      third_of_two = refl;
      made_up = refl;
      made_up_past = refl;
      static_list = refl;
      static_placed = refl;
      static_short = refl;
      static_no_block = refl;
      static_no_metadata = refl;
    }
