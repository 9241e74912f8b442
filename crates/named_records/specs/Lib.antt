pub mod NamedRecords
