pub mod Examples
pub mod OffsetsLaws
