pub mod CallsLaws
pub mod Checked
