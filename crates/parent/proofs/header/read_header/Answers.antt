-- `parent::header::read_header` meets its contract: each `return` is a case of `header`.
use native.Mathlib.Omega.{arith}
use Rattle.parent.proofs.ContextLaws.{zero_header, no_header, parent_wraps, header_at}
use Rattle.parent.proofs.header.read_header.Goals as goal

pub returns-then-descriptor_va-eq0 : goal.returns-then-descriptor_va-eq0
returns-then-descriptor_va-eq0 c = zero_header _ _ _ c.if-descriptor_va-eq0.true

pub returns-then-bytes-lt8 : goal.returns-then-bytes-lt8
returns-then-bytes-lt8 c = no_header _ _ _ c.if-descriptor_va-eq0.false _ c.read_bytes-bytes.ensures (omega arith)

pub returns-then-descriptor_va-gt18446744073709551611 : goal.returns-then-descriptor_va-gt18446744073709551611
returns-then-descriptor_va-gt18446744073709551611 c = parent_wraps _ _ _ c.if-descriptor_va-eq0.false _ c.read_bytes-bytes.ensures (omega arith) (omega arith)

pub returns : goal.returns
returns c =
    header_at _ _ _ c.if-descriptor_va-eq0.false _ c.read_bytes-bytes.ensures _ _ c.u32_at.ensures c.address_in.ensures
    (omega arith) (omega arith)
