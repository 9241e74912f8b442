pub mod BodyLaws
pub mod Checked
pub mod Examples
pub mod ItemsLaws
pub mod PathLaws
pub mod SingletonLaws
