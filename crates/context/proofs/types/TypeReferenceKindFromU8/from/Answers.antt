-- `TypeReferenceKind` from a `u8` meets its contract: each arm is a row of the enumeration.
use Prim.Native.Nat.{ℕ}
use mathlib.Core.Path.{◌≡◌}
use borrow.Author.Rules.{rules}
use Rattle.context.specs.TypeContext.{references, reference_of}
use Rattle.context.specs.declared.types.TypeReferenceKind.TheVariants.{Other}
use Rattle.context.proofs.Rows.{Row, value, in_row}
use Rattle.context.proofs.types.TypeReferenceKindFromU8.from.Goals as goal

arm : (i n : ℕ) → Row i references n → value i references (Other n) ≡ reference_of n
unfolding reference_of
arm i n h = in_row i references _ n h

pub returns-in-0 : goal.returns-in-0
returns-in-0 c = arm 0 _ (search rules)

pub returns-in-1 : goal.returns-in-1
returns-in-1 c = arm 1 _ (search rules)

pub returns-in-2 : goal.returns-in-2
returns-in-2 c = arm 2 _ (search rules)

pub returns-in-3 : goal.returns-in-3
returns-in-3 c = arm 3 _ (search rules)

pub returns-in_default : goal.returns-in_default
returns-in_default c = arm 4 _ (search rules)
