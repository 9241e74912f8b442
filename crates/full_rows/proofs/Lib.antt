pub mod BlocksLaws
pub mod FullRowsLaws
pub mod ItemsLaws
pub mod OakRows
