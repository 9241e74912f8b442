-- `entry_tables::window::window_at` meets its contract.
use Rattle.std.proofs.Common.{◌+◌, ◌*◌, arith}
use Rattle.vtable.proofs.EntriesLaws.{product}
use Rattle.entry_tables.proofs.TablesLaws.{place_wraps, opens_same, opens_as}
use Rattle.entry_tables.proofs.window.window_at.Goals as goal

pub overflow_mul-stride : goal.overflow_mul-stride
overflow_mul-stride c = record { fits = product (omega arith) (omega arith) }

pub returns-in_err-address : goal.returns-in_err-address
returns-in_err-address c =
    opens_same c.args.rt.now.image.now c.args.rt.now.segments.now (4 + 4 * c.args.shape.more) (c.args.base_va + c.args.stride * c.args.k) _ _ c.from_residual.ensures (place_wraps _ _ _ _ (omega (arith, c.in_err-address.ensures)))

pub returns-then-address-size : goal.returns-then-address-size
returns-then-address-size c = place_wraps _ _ _ _ (omega (arith, c.in_ok-address.ensures.1, c.size-size.ensures))

pub returns-then-alone : goal.returns-then-alone
returns-then-alone c = opens_as c.args.rt.now.image.now c.args.rt.now.segments.now c.size-size.ensures c.in_ok-address.ensures.1 _ c.window_of_one.ensures

pub returns-else-alone : goal.returns-else-alone
returns-else-alone c = opens_as c.args.rt.now.image.now c.args.rt.now.segments.now c.size-size.ensures c.in_ok-address.ensures.1 _ c.window_of_all.ensures
