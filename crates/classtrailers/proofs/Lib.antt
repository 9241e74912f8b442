pub mod BlocksLaws
pub mod CallsLaws
pub mod Checked
pub mod Examples
pub mod PathLaws
