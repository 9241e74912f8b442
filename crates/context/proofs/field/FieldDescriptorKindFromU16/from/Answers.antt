-- `FieldDescriptorKind` from a `u16` meets its contract: each arm is a row of the enumeration.
use Prim.Native.Nat.{ℕ}
use mathlib.Core.Path.{◌≡◌}
use borrow.Author.Rules.{rules}
use Rattle.context.specs.Field.{field_kinds, field_kind}
use Rattle.context.specs.declared.field.FieldDescriptorKind.TheVariants.{Other}
use Rattle.context.proofs.Rows.{Row, value, in_row}
use Rattle.context.proofs.field.FieldDescriptorKindFromU16.from.Goals as goal

arm : (i n : ℕ) → Row i field_kinds n → value i field_kinds (Other n) ≡ field_kind n
unfolding field_kind
arm i n h = in_row i field_kinds _ n h

pub returns-in-0 : goal.returns-in-0
returns-in-0 c = arm 0 _ (search rules)

pub returns-in-1 : goal.returns-in-1
returns-in-1 c = arm 1 _ (search rules)

pub returns-in-2 : goal.returns-in-2
returns-in-2 c = arm 2 _ (search rules)

pub returns-in-3 : goal.returns-in-3
returns-in-3 c = arm 3 _ (search rules)

pub returns-in-4 : goal.returns-in-4
returns-in-4 c = arm 4 _ (search rules)

pub returns-in-5 : goal.returns-in-5
returns-in-5 c = arm 5 _ (search rules)

pub returns-in-6 : goal.returns-in-6
returns-in-6 c = arm 6 _ (search rules)

pub returns-in-7 : goal.returns-in-7
returns-in-7 c = arm 7 _ (search rules)

pub returns-in_default : goal.returns-in_default
returns-in_default c = arm 8 _ (search rules)
