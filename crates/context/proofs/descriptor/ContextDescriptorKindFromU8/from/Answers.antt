-- `ContextDescriptorKind` from a `u8` meets its contract: each arm is a row of the enumeration.
use Prim.Native.Nat.{ℕ}
use mathlib.Core.Path.{◌≡◌}
use borrow.Author.Rules.{rules}
use Rattle.context.specs.Context.{context_kinds, kind_of}
use Rattle.context.specs.declared.descriptor.ContextDescriptorKind.TheVariants.{Other}
use Rattle.context.proofs.Rows.{Row, value, in_row}
use Rattle.context.proofs.descriptor.ContextDescriptorKindFromU8.from.Goals as goal

arm : (i n : ℕ) → Row i context_kinds n → value i context_kinds (Other n) ≡ kind_of n
unfolding kind_of
arm i n h = in_row i context_kinds _ n h

pub returns-in-0 : goal.returns-in-0
returns-in-0 c = arm 0 _ (search rules)

pub returns-in-1 : goal.returns-in-1
returns-in-1 c = arm 1 _ (search rules)

pub returns-in-2 : goal.returns-in-2
returns-in-2 c = arm 2 _ (search rules)

pub returns-in-3 : goal.returns-in-3
returns-in-3 c = arm 3 _ (search rules)

pub returns-in-4 : goal.returns-in-4
returns-in-4 c = arm 4 _ (search rules)

pub returns-in-16 : goal.returns-in-16
returns-in-16 c = arm 5 _ (search rules)

pub returns-in-17 : goal.returns-in-17
returns-in-17 c = arm 6 _ (search rules)

pub returns-in-18 : goal.returns-in-18
returns-in-18 c = arm 7 _ (search rules)

pub returns-in_default : goal.returns-in_default
returns-in_default c = arm 8 _ (search rules)
