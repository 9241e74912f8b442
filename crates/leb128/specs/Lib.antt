pub mod Leb128
pub mod Leb128Walk
