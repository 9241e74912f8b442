-- What full rows give are items of the listing: the block of a kind is the slot's (`kind-listed`), and the methods of a record's vtable, as
-- a walk over it or a whole table gives them (`table-listed` of `entry_tables`), are the slot's (`row-methods`, `no-row-methods`).
use Rattle.std.specs.Prelude.{ℕ, ◌≡◌, refl, List, Option, Some, None, option_map, slice_get}
use Rattle.std.proofs.Common.{arith, sym, ap, ◌∙◌}
use Rattle.runtime.specs.Reads.{run}
use Rattle.classtrailers.specs.Blocks.{table_block}
use Rattle.classtrailers.specs.declared.block.Block.{Block}
use Rattle.classtrailers.specs.declared.block.BlockKind.{BlockKind}
use Rattle.typedescriptor.specs.Row.{TypeRow}
use Rattle.type_body.specs.Body.{Body, body}
use Rattle.type_body.specs.Items.{trailers}
use Rattle.type_body.proofs.PathLaws.{blocks_start_lem}
use Rattle.vtable.specs.Entries.{method, start}
use Rattle.vtable.specs.Listed.{listed_entries}
use Rattle.items.specs.Keys.{Sections, EntryKind, Key, Answer}
use Rattle.items.specs.Items.{item}
use Rattle.items.proofs.ListedLaws as items
use Rattle.steps.specs.Blocks.{kind_from}

module _ (image segments : List ℕ) (s : Sections) (i : ℕ) (r : TypeRow) (is_row : run image segments (item s (Key.row i)) ≡ Some (Answer.row r)) where
  -- the block of a kind in the record of the slot's row
  abbrev pub of_kind : BlockKind → Option Block
  of_kind k = kind_from image segments k (trailers r.address r.flags (run image segments (body r.address r.flags)))

  pub kind_listed : (k : BlockKind) → option_map Answer.block (of_kind k) ≡ run image segments (item s (Key.block i k))
  kind_listed k = go (run image segments (body r.address r.flags)) refl
    where
      go : (y : Option Body) → run image segments (body r.address r.flags) ≡ y → option_map Answer.block (of_kind k) ≡ run image segments (item s (Key.block i k))
      go None e = rw e (sym (items.no_body image segments s i r is_row k (items.body_listed image segments s i r is_row ∙ ap (option_map Answer.body) e)))
      go (Some b) e =
          rw (ap (trailers r.address r.flags) e ∙ blocks_start_lem image segments r.address b r.flags e)
          (sym (items.block_listed image segments s i r is_row b (items.body_listed image segments s i r is_row ∙ ap (option_map Answer.body) e) k))

  -- method `k` of the vtable is item `k`
  pub row_methods : (offset count base : ℕ) → of_kind BlockKind.VTable ≡ Some (table_block BlockKind.VTable offset count base) → (k : ℕ)
      → option_map Answer.entry (slice_get (listed_entries image segments method count (start base count)) k) ≡ run image segments (item s (Key.entry i EntryKind.methods k))
  row_methods offset count base e k =
      items.methods_listed image segments s i count base count k (omega arith) offset (sym (kind_listed BlockKind.VTable) ∙ ap (option_map Answer.block) e)

  pub no_row_methods : of_kind BlockKind.VTable ≡ None → (k : ℕ) → run image segments (item s (Key.entry i EntryKind.methods k)) ≡ None
  no_row_methods e k = items.no_entry image segments s i EntryKind.methods k (sym (kind_listed BlockKind.VTable) ∙ ap (option_map Answer.block) e)
