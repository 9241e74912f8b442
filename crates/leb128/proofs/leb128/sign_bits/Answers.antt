-- `leb128::leb128::sign_bits` meets its contract.
use Prim.Native.Nat.{◌^◌}
use borrow.Author.Tests.{lt-ltb, le-ltb}
use Rattle.leb128.proofs.leb128.sign_bits.Goals as goal

pub returns-then-n-lt9223372036854775808 : goal.returns-then-n-lt9223372036854775808
returns-then-n-lt9223372036854775808 c = rw (lt-ltb _ (2 ^ 63) c.if-n-lt9223372036854775808.true)

pub returns-else-n-lt9223372036854775808 : goal.returns-else-n-lt9223372036854775808
returns-else-n-lt9223372036854775808 c = rw (le-ltb _ (2 ^ 63) c.if-n-lt9223372036854775808.false)
