pub mod CallsLaws
pub mod PathLaws
pub mod ReadsLaws
