pub mod Empty
pub mod PrintedLaws
pub mod PrintsLaws
pub mod Wrapped
