-- `certainty::chain::header_certain` meets its contract: each `return` is a case of `headerCertain`.
use native.Mathlib.Omega.{arith}
use mathlib.Core.Path.{sym, ◌∙◌}
use Rattle.certainty.proofs.ReadLaws.{high_header, zero_header, short_header, whole_header}
use Rattle.certainty.proofs.chain.header_certain.Goals as goal

pub returns-then-descriptor_va-gt18446744073709551611 : goal.returns-then-descriptor_va-gt18446744073709551611
returns-then-descriptor_va-gt18446744073709551611 c = sym (high_header _ _ _ (omega arith))

pub returns-then-descriptor_va-eq0 : goal.returns-then-descriptor_va-eq0
returns-then-descriptor_va-eq0 c = sym (zero_header _ _ _ c.if-descriptor_va-eq0.true (omega arith))

pub returns-then-bytes-lt8 : goal.returns-then-bytes-lt8
returns-then-bytes-lt8 c =
    c.is_nowhere.ensures ∙ sym (short_header _ _ _ c.if-descriptor_va-eq0.false (omega arith) _ c.read_bytes-bytes.ensures (omega arith))

pub returns : goal.returns
returns c = sym (whole_header _ _ _ c.if-descriptor_va-eq0.false (omega arith) _ c.read_bytes-bytes.ensures (omega arith))
