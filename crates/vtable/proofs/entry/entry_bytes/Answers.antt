-- `vtable::entry::entry_bytes` meets its contract: each `return` is a case of `entryBytes`.
use Rattle.std.proofs.Common.{◌+◌, ◌*◌, ◌^◌, ◌≤◌, arith, rules}
use Rattle.vtable.proofs.EntriesLaws.{product, small, wraps, below_at}
use Rattle.vtable.proofs.entry.entry_bytes.Goals as goal

pub returns-then-size-lt4 : goal.returns-then-size-lt4
returns-then-size-lt4 c = small _ _ _ _ _ _ c.if-size-lt4.true

pub overflow_mul-stride : goal.overflow_mul-stride
overflow_mul-stride c = record { fits = product (search rules) (search rules) }

pub returns-in_default : goal.returns-in_default
returns-in_default c =
    let wraps_here : 2 ^ 64 ≤ c.args.base_va + c.args.stride * c.args.k = omega (arith, c.in_default.ensures) in
    wraps _ _ _ _ _ _ (omega arith) (omega arith)

pub returns-then-address-size : goal.returns-then-address-size
returns-then-address-size c = wraps _ _ _ _ _ _ (omega arith) (omega (arith, c.in-Some.ensures))

pub returns : goal.returns
returns c =
    let at = c.in-Some.ensures in
    below_at _ _ _ _ _ _ _ _ (omega arith) at.1 (omega arith) c.read_bytes.ensures
