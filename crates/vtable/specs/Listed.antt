-- The list of a caller who steps over a table.
use Rattle.std.specs.Prelude.{ℕ, zero, suc, List, [], ◌∷◌, Some, None}
use Rattle.vtable.specs.declared.iter.EntryIter.{EntryIter}
use Rattle.vtable.specs.Entries.{Layout, Entry, entry_step}

module _ (image segments : List ℕ) (layout : Layout) where
  -- the entries that at most `n` steps give, up to the first unreadable one
  unfoldable pub listed_entries : ℕ → EntryIter → List Entry
  listed_entries zero c = []
  listed_entries (suc n) c =
      elim (entry_step image segments layout c) [
        | None ↦ []
        | Some s ↦ elim s.found [ None ↦ [] | Some e ↦ e ∷ listed_entries n s.next ]
      ]
