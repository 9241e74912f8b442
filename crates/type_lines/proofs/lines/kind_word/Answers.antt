-- `type_lines::lines::kind_word` meets its contract.
use Rattle.std.proofs.Common.{arith, sym}
use Rattle.type_lines.proofs.LinesLaws.{kind_class, kind_struct, kind_enum, kind_other}
use Rattle.type_lines.proofs.lines.kind_word.Goals as goal

pub returns-in-16 : goal.returns-in-16
returns-in-16 c = sym (kind_class _ c.in-16.is)

pub returns-in-17 : goal.returns-in-17
returns-in-17 c = sym (kind_struct _ (λ e. omega arith) c.in-17.is)

pub returns-in-18 : goal.returns-in-18
returns-in-18 c = sym (kind_enum _ (λ e. omega arith) (λ e. omega arith) c.in-18.is)

pub returns-in_default : goal.returns-in_default
returns-in_default c = sym (kind_other _ (λ e. omega arith) (λ e. omega arith) (λ e. omega arith))
