pub mod Bundle
pub mod Open
