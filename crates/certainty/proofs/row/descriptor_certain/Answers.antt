-- `certainty::row::descriptor_certain` meets its contract: each `return` is a case of `descriptor`.
use native.Mathlib.Omega.{arith}
use mathlib.Core.Path.{sym, ◌∙◌}
use Rattle.certainty.proofs.ReadLaws.{short_descriptor, high_descriptor, named_descriptor}
use Rattle.certainty.proofs.row.descriptor_certain.Goals as goal

pub returns-then-header-lt20 : goal.returns-then-header-lt20
returns-then-header-lt20 c = c.is_nowhere.ensures ∙ sym (short_descriptor _ _ _ _ c.read_bytes-header.ensures (omega arith))

pub returns-then-descriptor_va-gt18446744073709551607 : goal.returns-then-descriptor_va-gt18446744073709551607
returns-then-descriptor_va-gt18446744073709551607 c = sym (high_descriptor _ _ _ _ c.read_bytes-header.ensures (omega arith) (omega arith))

pub returns : goal.returns
returns c =
    c.text_certain.ensures ∙ sym (named_descriptor _ _ _ _ c.read_bytes-header.ensures _ c.pointer_in.ensures (omega arith) (omega arith))
