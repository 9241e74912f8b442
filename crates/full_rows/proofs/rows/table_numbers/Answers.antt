-- `full_rows::rows::table_numbers` meets its contract.
use Rattle.full_rows.proofs.BlocksLaws.{table_of_vtable, table_of_other}
use Rattle.full_rows.proofs.rows.table_numbers.Goals as goal

pub returns-in-VTable : goal.returns-in-VTable
returns-in-VTable c = table_of_vtable c.args.kind _ _ _ c.in-VTable.is

pub returns-in_default : goal.returns-in_default
returns-in_default c = table_of_other c.args.kind c.args.offset _ _ c.in_default.not-VTable
