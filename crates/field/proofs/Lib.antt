pub mod FieldsLaws
pub mod PathLaws
pub mod RecordsLaws
