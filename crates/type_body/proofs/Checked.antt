-- docs/SPECIFICATION.md, "Checked lines": the class at `a`, from its body on.
use Rattle.std.specs.Prelude.{ℕ, ◌+◌, ◌^◌, ◌≤◌, ◌<◌, List, drop, Option, Some, None}
use Rattle.std.proofs.Math.Decide.{dec_le}
use Rattle.std.proofs.Common.{arith, sym, ◌∙◌, le-leb}
use Rattle.std.proofs.Math.Path.{◌≡◌, ap}
use Rattle.std.proofs.Math.ListN.{take}
use Rattle.std.proofs.lemmas.Bool.{lt-leb}
use Rattle.util.specs.LittleEndian.{unsigned_in}
use Rattle.context.specs.Context.{kind_of}
use Rattle.runtime.specs.Reads.{done, bytes, run}
use Rattle.runtime.proofs.PathLaws.{bytes_read_lem}
use Rattle.classtrailers.specs.Blocks.{table_block, reached, block}
use Rattle.classtrailers.proofs.Checked.{tabled, ThreeMethods, checked_blocks}
use Rattle.classtrailers.specs.declared.block.BlockKind.{BlockKind}
use Rattle.type_body.specs.Body.{Body, class_body, body_bytes, body, trailing, trailing_start}
use Rattle.type_body.specs.Items.{Start, trailers}
use Rattle.type_body.proofs.PathLaws.{blocks_start_lem}

-- the body of the class at `a` with flags 0xc0000010 can be read, and so can the header of its vtable, which has 3 methods
pub record ClassAt (image segments : List ℕ) (a : ℕ) (b : Body) (h : List ℕ) : Type 0 where
  pub read : run image segments (body a 0xc0000010) ≡ Some b
  pub vtable : ThreeMethods image segments (a + 44) h
  pub below : a + 76 < 2 ^ 64

pub record CheckedClass : Type 0 where
  -- its blocks start at `a` + 44
  pub start : (image segments : List ℕ) (a : ℕ) (b : Body) → run image segments (body a 0xc0000010) ≡ Some b
      → trailers a 0xc0000010 (Some b) ≡ Some (record { trailing = tabled 0; start = a + 44 })
  -- and what follows its body has the vtable's header there, the entries at `a` + 52, and the header of the overrides at `a` + 76
  pub vtable_header : (image segments : List ℕ) (a : ℕ) (b : Body) (h : List ℕ) → ClassAt image segments a b h → (s : Start) → trailers a 0xc0000010 (Some b) ≡ Some s
      → run image segments (reached s.trailing s.start 4) ≡ Some (a + 44)
  pub vtable_entries : (image segments : List ℕ) (a : ℕ) (b : Body) (h : List ℕ) → ClassAt image segments a b h → (s : Start) → trailers a 0xc0000010 (Some b) ≡ Some s
      → run image segments (block s.trailing s.start BlockKind.VTable) ≡ Some (table_block BlockKind.VTable (unsigned_in 4 h 0) 3 (a + 52))
  pub override_header : (image segments : List ℕ) (a : ℕ) (b : Body) (h : List ℕ) → ClassAt image segments a b h → (s : Start) → trailers a 0xc0000010 (Some b) ≡ Some s
      → run image segments (reached s.trailing s.start 5) ≡ Some (a + 76)

module _ (image segments : List ℕ) (a : ℕ) (b : Body) (e : run image segments (body a 0xc0000010) ≡ Some b) where
  -- a body that can be read is the class body that its bytes hold
  record ClassRead : Type 0 where
    header : List ℕ
    says : b ≡ class_body a 0xc0000010 header

  class_read : ClassRead
  unfolding body body_bytes kind_of run
  class_read = go (dec_le (2 ^ 64) (a + 20 + 24))
    where
      go : Dec (2 ^ 64 ≤ a + 20 + 24) → ClassRead
      go (yes l) =
          let f : ◌≡◌ {A = Option Body} None (Some b) = simp (le-leb (2 ^ 64) (a + 20 + 24) l) at e in
          let z : ◌≡◌ {A = ℕ} 0 1 = cc in
          absurd (omega arith)
      go (no l) =
          let f : run image segments (bytes (a + 20) 24 (λ h. done (class_body a 0xc0000010 h))) ≡ Some b = simp (lt-leb (2 ^ 64) (a + 20 + 24) (omega arith)) at e in
          let w = bytes_read_lem image segments (a + 20) b 24 (λ h. done (class_body a 0xc0000010 h)) f in
          let g : Some (class_body a 0xc0000010 (take 24 (drop w.offset image))) ≡ Some b = w.goes in
          record { header = take 24 (drop w.offset image); says = cc }

  start_at_lem : trailers a 0xc0000010 (Some b) ≡ Some (record { trailing = tabled 0; start = a + 44 })
  unfolding class_body
  start_at_lem = blocks_start_lem image segments a b 0xc0000010 e ∙ ap (λ (c : Body). Some (record { trailing = trailing 0xc0000010 c; start = trailing_start a c })) class_read.says

  is_start : (s : Start) → trailers a 0xc0000010 (Some b) ≡ Some s → s ≡ record { trailing = tabled 0; start = a + 44 }
  is_start s f = let g : Some s ≡ Some (record { trailing = tabled 0; start = a + 44 }) = sym f ∙ start_at_lem in cc

pub checked_class : CheckedClass
checked_class =
    record {
      start = start_at_lem;
      vtable_header = λ image segments a b h w s f. rw (is_start image segments a b w.read s f) (checked_blocks.vtable_header image segments 0 a);
      vtable_entries = λ image segments a b h w s f. rw (is_start image segments a b w.read s f) (checked_blocks.vtable_entries image segments 0 a h w.vtable w.below);
      override_header = λ image segments a b h w s f. rw (is_start image segments a b w.read s f) (checked_blocks.override_header image segments 0 a h w.vtable w.below);
    }
