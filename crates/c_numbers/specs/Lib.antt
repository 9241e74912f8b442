pub mod Flags
pub mod Readers
