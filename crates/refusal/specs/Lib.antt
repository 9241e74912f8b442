pub mod Refusal
pub mod Guarded
