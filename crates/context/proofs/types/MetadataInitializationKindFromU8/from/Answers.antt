-- `MetadataInitializationKind` from a `u8` meets its contract: each arm is a row of the enumeration.
use Prim.Native.Nat.{ℕ}
use mathlib.Core.Path.{◌≡◌}
use borrow.Author.Rules.{rules}
use Rattle.context.specs.TypeContext.{initializations, initialization_of}
use Rattle.context.specs.declared.types.MetadataInitializationKind.TheVariants.{Other}
use Rattle.context.proofs.Rows.{Row, value, in_row}
use Rattle.context.proofs.types.MetadataInitializationKindFromU8.from.Goals as goal

arm : (i n : ℕ) → Row i initializations n → value i initializations Other ≡ initialization_of n
unfolding initialization_of
arm i n h = in_row i initializations _ n h

pub returns-in-0 : goal.returns-in-0
returns-in-0 c = arm 0 _ (search rules)

pub returns-in-1 : goal.returns-in-1
returns-in-1 c = arm 1 _ (search rules)

pub returns-in-2 : goal.returns-in-2
returns-in-2 c = arm 2 _ (search rules)

pub returns-in_default : goal.returns-in_default
returns-in_default c = arm 3 _ (search rules)
