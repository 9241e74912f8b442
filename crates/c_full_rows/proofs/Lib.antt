pub mod FullRowsLaws
