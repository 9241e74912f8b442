-- `full_rows::rows::numbers_of` meets its contract.
use mathlib.Core.Path.{refl}
use Rattle.full_rows.proofs.BlocksLaws.{recorded_as}
use Rattle.full_rows.proofs.rows.numbers_of.Goals as goal

pub returns-in-At : goal.returns-in-At
returns-in-At c = recorded_as _ _ _ _ c.in-At.is refl

pub returns-in-Table : goal.returns-in-Table
returns-in-Table c = recorded_as _ _ _ _ c.in-Table.is c.table_numbers.ensures

pub returns-in-Set : goal.returns-in-Set
returns-in-Set c = recorded_as _ _ _ _ c.in-Set.is refl
