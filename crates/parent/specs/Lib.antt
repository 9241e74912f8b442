pub mod Chain
pub mod Context
