-- A field's name: docs/SPECIFICATION.md, "Field names".
use Rattle.std.specs.Prelude.{ℕ, ◌-◌, List, [], cond, ◌&&◌, length, leb, ltb, eqb, Option, Some, None, option_map}
use Rattle.util.specs.declared.cstr.Place.{Place}
use Rattle.util.specs.Cstr.{text_at, part_of}
use Rattle.runtime.specs.Reads.{text_place}
use Rattle.runtime.specs.declared.reflstr.FieldName.{FieldName}
use Rattle.runtime.specs.declared.reflstr.FieldName.TheVariants.{Image, Strings}

-- a place in the image or in the string section
pub data NamePlace : Type 0 where
  in_image : Place → NamePlace
  in_strings : Place → NamePlace

-- the text at an address inside a section that starts at `start`
unfoldable pub section_text : List ℕ → ℕ → ℕ → Option Place
section_text strings start address =
    cond (leb start address && ltb (address - start) (length strings)) (text_at strings (address - start)) None

abbrev pub or_else : {A : Type 0} → Option A → Option A → Option A
or_else None b = b
or_else (Some a) b = Some a

-- nothing for address 0; else the image, then the string section
unfoldable pub field_name : List ℕ → List ℕ → List ℕ → ℕ → ℕ → Option NamePlace
field_name image segments strings start address =
    cond (eqb address 0) None
    (or_else (option_map in_image (text_place image segments address)) (option_map in_strings (section_text strings start address)))

-- what a call's answer says
abbrev pub name_place : FieldName → NamePlace
name_place (Image p) = in_image p
name_place (Strings p) = in_strings p

abbrev pub field_name_of : Option FieldName → Option NamePlace
field_name_of name = option_map name_place name

-- the bytes of a name, none if there is none
abbrev pub name_part : List ℕ → List ℕ → Option NamePlace → List ℕ
name_part image strings None = []
name_part image strings (Some (in_image p)) = part_of image p
name_part image strings (Some (in_strings p)) = part_of strings p
