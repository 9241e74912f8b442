pub mod NamedRecordsLaws
pub mod NamedTableLaws
