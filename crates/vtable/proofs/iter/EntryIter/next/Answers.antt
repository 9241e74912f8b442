-- `vtable::iter::EntryIter::next` meets its contract: each `return` is a case of `entryStep`.
use Rattle.std.proofs.Common.{arith, rules}
use Rattle.vtable.proofs.EntriesLaws.{shape_entry, kind_end, kind_unreadable, kind_entry}
use Rattle.vtable.proofs.iter.EntryIter.next.Goals as goal

pub returns-then-self : goal.returns-then-self
returns-then-self c = kind_end _ _ c.args.kind c.args.self (omega arith)

pub returns-then-is_empty : goal.returns-then-is_empty
returns-then-is_empty c =
    kind_unreadable _ _ c.args.kind c.args.self _ c.size-size.ensures _ c.entry_bytes-bytes.ensures _ c.moved-next.ensures (omega arith) (search rules)

pub returns : goal.returns
returns c =
    kind_entry _ _ c.args.kind c.args.self _ c.size-size.ensures _ c.entry_bytes-bytes.ensures _ c.moved-next.ensures (omega arith) (λ z. search rules) _ _ c.entry_address-address.ensures
    (shape_entry _ c.shape-shape.result c.shape-shape.ensures _ _ _
    c.entry.ensures)
