pub mod Certain
pub mod Fields
pub mod Names
pub mod Offsets
