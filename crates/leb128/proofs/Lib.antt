pub mod Leb128Laws
pub mod Leb128Theorems
