-- docs/SPECIFICATION.md, "Checked lines": those that speak of blocks.
use Rattle.std.specs.Prelude.{ℕ, ◌+◌, ◌*◌, ◌^◌, ◌≤◌, ◌<◌, ◌≡◌, List, [], ◌∷◌, ◌++◌, true, length, Some}
use native.Mathlib.Omega.{arith}
use Rattle.std.proofs.Math.Path.{refl, sym, ap}
use Rattle.std.proofs.Common.{◌∙◌}
use Rattle.segment.specs.Segments.{segments_of, file_offset}
use Rattle.util.specs.LittleEndian.{unsigned_in}
use Rattle.runtime.specs.Reads.{run, bind, path, also, bytes_range}
use Rattle.runtime.specs.Bytes.{bytes_read}
use Rattle.classtrailers.specs.Blocks.{Trailing, table_block, generic_size, row_at, below, block_at, passed, reached, block}
use Rattle.classtrailers.proofs.CallsLaws.{ends_below, record_says, end_says, block_says, pass_there, reached_next, kind_there_lem}
use Rattle.classtrailers.proofs.PathLaws.{headers, row_range, block_path}
use Rattle.classtrailers.specs.declared.block.Block.{Block}
use Rattle.classtrailers.specs.declared.block.BlockKind.{BlockKind}

-- a class with flags 0xc0000010, whatever its extra class flags
abbrev pub tabled : ℕ → Trailing
tabled extra = record { flags = 0xc0000010; is_class = true; extra = extra }

-- the 8 bytes at an address are the header of a vtable of 3 methods
pub record ThreeMethods (image segments : List ℕ) (a : ℕ) (h : List ℕ) : Type 0 where
  pub read : h ≡ bytes_read image segments a 8
  pub whole : 8 ≤ length h
  pub methods : unsigned_in 4 h 4 ≡ 3

pub record CheckedBlocks : Type 0 where
  pub no_parameters : generic_size 0 0 ≡ 16
  pub three_parameters : generic_size 3 0 ≡ 20
  pub four_parameters : generic_size 4 0 ≡ 20
  pub two_requirements : generic_size 3 2 ≡ 44
  -- in the class at `a`, whose blocks start at `a` + 44: where the vtable's header, its entries and the header of the overrides lie
  pub vtable_header : (image segments : List ℕ) (extra a : ℕ) → run image segments (reached (tabled extra) (a + 44) 4) ≡ Some (a + 44)
  pub vtable_entries : (image segments : List ℕ) (extra a : ℕ) (h : List ℕ) → ThreeMethods image segments (a + 44) h → a + 76 < 2 ^ 64
      → run image segments (block (tabled extra) (a + 44) BlockKind.VTable) ≡ Some (table_block BlockKind.VTable (unsigned_in 4 h 0) 3 (a + 52))
  pub override_header : (image segments : List ℕ) (extra a : ℕ) (h : List ℕ) → ThreeMethods image segments (a + 44) h → a + 76 < 2 ^ 64
      → run image segments (reached (tabled extra) (a + 44) 5) ≡ Some (a + 76)
  -- and what the overrides' block reads: both headers
  pub override_path : (image segments : List ℕ) (extra a : ℕ) (h : List ℕ) → ThreeMethods image segments (a + 44) h → a + 76 < 2 ^ 64
      → (o q : ℕ) (b : Block) → file_offset (segments_of segments) (a + 44) ≡ Some o → file_offset (segments_of segments) (a + 76) ≡ Some q
      → Some b ≡ run image segments (block (tabled extra) (a + 44) BlockKind.OverrideTable)
      → path image segments (block (tabled extra) (a + 44) BlockKind.OverrideTable) ≡ bytes_range o 8 ∷ (bytes_range q 4 ∷ [])

module _ (image segments : List ℕ) (extra a : ℕ) where
  header : run image segments (reached (tabled extra) (a + 44) 4) ≡ Some (a + 44)
  unfolding reached bind passed row_at run
  header = refl

  module _ (h : List ℕ) (w : ThreeMethods image segments (a + 44) h) (l : a + 76 < 2 ^ 64) where
    says : Some (record { block = table_block BlockKind.VTable (unsigned_in 4 h 0) 3 (a + 52); end = Some (a + 76) }) ≡ run image segments (block_at (row_at 4) (a + 44))
    unfolding row_at
    says =
        let size : a + 44 + (8 + 8 * unsigned_in 4 h 4) ≡ a + 76 = omega (arith, w.methods) in
        let place : a + 44 + 8 ≡ a + 52 = omega arith in
        block_says image segments (a + 44) 7 h w.read (row_at 4) refl w.whole refl _ _ (rw (w.methods, place)) (ends_below (a + 76) l ∙ ap below (sym size))

    there : (row_at 4).there (tabled extra) ≡ true
    unfolding row_at
    there = refl

    entries : run image segments (block (tabled extra) (a + 44) BlockKind.VTable) ≡ Some (table_block BlockKind.VTable (unsigned_in 4 h 0) 3 (a + 52))
    unfolding block
    entries = sym (kind_there_lem image segments (tabled extra) (a + 44) 4 4 (a + 44) _ there (sym header) refl (record_says image segments (row_at 4) (a + 44) _ says))

    overrides : run image segments (reached (tabled extra) (a + 44) 5) ≡ Some (a + 76)
    overrides = sym (reached_next image segments (tabled extra) (a + 44) 4 (a + 44) _ (sym header) (pass_there image segments (tabled extra) (row_at 4) (a + 44) _ there (end_says image segments (row_at 4) (a + 44) _ says)))

    module _ (o q : ℕ) (p : file_offset (segments_of segments) (a + 44) ≡ Some o) (r : file_offset (segments_of segments) (a + 76) ≡ Some q) where
      vtable_range : headers image segments (tabled extra) (a + 44) 5 ≡ bytes_range o 8 ∷ []
      unfolding headers reached bind passed row_at run
      vtable_range = rw p

      override_range : row_range segments (tabled extra) 5 (a + 76) ≡ bytes_range q 4 ∷ []
      unfolding row_at
      override_range = rw r

      one_more : headers image segments (tabled extra) (a + 44) 6
          ≡ headers image segments (tabled extra) (a + 44) 5 ++ also (run image segments (reached (tabled extra) (a + 44) 5)) (row_range segments (tabled extra) 5)
      unfolding headers
      one_more = refl

      both : headers image segments (tabled extra) (a + 44) 6 ≡ bytes_range o 8 ∷ (bytes_range q 4 ∷ [])
      both = one_more ∙ rw (vtable_range, overrides, override_range)

pub checked_blocks : CheckedBlocks
unfolding generic_size
checked_blocks =
    record {
      no_parameters = refl;
      three_parameters = refl;
      four_parameters = refl;
      two_requirements = refl;
      vtable_header = header;
      vtable_entries = entries;
      override_header = overrides;
      override_path = λ image segments extra a h w l o q b p r e.
          block_path image segments (tabled extra) (a + 44) BlockKind.OverrideTable b e ∙ both image segments extra a h w l o q p r;
    }
