pub mod Name
pub mod Walk
