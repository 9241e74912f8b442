pub mod GivenLaws
pub mod PathLaws
pub mod RowLaws
pub mod SlotsLaws
