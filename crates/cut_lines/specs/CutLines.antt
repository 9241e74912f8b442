-- What a cut leaves of a printed line: docs/SPECIFICATION.md, "The printed listing" and "Items, paths and the cut".
use Rattle.std.specs.Prelude.{ℕ, ◌≡◌, List, [], ◌∷◌, ◌++◌, Bool, cond, ◌&&◌, length, take, ltb, None}
use Rattle.refusal.specs.Refusal.{Guarded, answered, refused}
use Rattle.runtime.specs.Reads.{Range, path, every, ends_by}
use Rattle.typedescriptor.specs.Row.{TypeRow}
use Rattle.parent.specs.Context.{header, name, Context}
use Rattle.parent.specs.Chain.{contexts_most, header_at, chain}
use Rattle.qualified_name.specs.Name.{hops, too_deep}
use Rattle.items.specs.Keys.{Sections}
use Rattle.bundle_parts.specs.Accepted.{accept_bundle}
use Rattle.bundle_parts.specs.Parts.{bytes_of, segment_numbers}
use Rattle.bundle.specs.declared.open.Layout.{Layout}
use Rattle.type_lines.specs.Digits.{hex}
use Rattle.type_lines.specs.Lines.{name_bytes, space, newline, kind_word, text_or}

-- a line before its name: it depends on the row alone
unfoldable pub line_head : TypeRow → List ℕ
line_head row = hex 16 row.address ++ space ++ kind_word row.flags ++ space

module _ (image segments : List ℕ) (c : ℕ) where
  -- a context's 8 bytes lie before the cut; and so do its name's
  abbrev pub header_ends_by : Context → Bool
  header_ends_by x = every (ends_by c) (path image segments (header x.header.address))

  abbrev pub name_ends_by : Context → Bool
  name_ends_by x = every (ends_by c) (path image segments (name x.header.address x.header.flags))

  -- the contexts up to the first whose 8 bytes do not lie before it, each with its name if the name's bytes do
  abbrev pub kept_contexts : List Context → List Context
  kept_contexts [] = []
  kept_contexts (x ∷ xs) =
      cond (header_ends_by x) (record { header = x.header; name = cond (name_ends_by x) x.name None } ∷ kept_contexts xs) []

  -- the 257th context can be read from bytes before the cut
  abbrev pub kept_too_deep : ℕ → Bool
  kept_too_deep a = every (ends_by c) (path image segments (header_at contexts_most a)) && too_deep image segments a

  -- the joined name of the contexts that are kept, and its answer for a buffer of a length
  unfoldable pub kept_name : TypeRow → List ℕ
  kept_name row = hops (kept_contexts (chain image segments contexts_most row.parent)) ++ row.name_bytes

  unfoldable pub kept_answer : TypeRow → ℕ → Guarded (List ℕ)
  kept_answer row size =
      cond (kept_too_deep row.parent) (refused 4) (cond (ltb size (length (kept_name row))) (refused 3) (answered (kept_name row)))

  -- and the row's line with it
  unfoldable pub kept_line : TypeRow → List ℕ
  kept_line row = line_head row ++ text_or (kept_answer row name_bytes) ++ newline

-- the bytes that the names of contexts are read from
abbrev pub names_path : List ℕ → List ℕ → List Context → List Range
names_path image segments [] = []
names_path image segments (x ∷ xs) = path image segments (name x.header.address x.header.flags) ++ names_path image segments xs

-- what a joined name reads beside its row: the 8 bytes of each context up to the 257th, and the names of the first 256
unfoldable pub joined_path : List ℕ → List ℕ → ℕ → List Range
joined_path image segments a = path image segments (header_at contexts_most a) ++ names_path image segments (chain image segments contexts_most a)

-- ---- bundles

-- the sections of an opened bundle
abbrev pub sections_of : List ℕ → Layout → Sections
sections_of b l =
    record {
      types = bytes_of b l.types.part;
      types_start = l.types.address;
      fields = bytes_of b l.fields.part;
      fields_start = l.fields.address;
    }

-- a bundle `b'` has the segments and the types section of `b`, and the first `c` bytes of its image
pub record CutBundle (b b' : List ℕ) (l l' : Layout) (c : ℕ) : Type 0 where
  pub whole : accept_bundle b ≡ answered l
  pub opened : accept_bundle b' ≡ answered l'
  pub image : bytes_of b' l'.image ≡ take c (bytes_of b l.image)
  pub segments : segment_numbers b' l' ≡ segment_numbers b l
  pub types : bytes_of b' l'.types.part ≡ bytes_of b l.types.part
  pub types_start : l'.types.address ≡ l.types.address
