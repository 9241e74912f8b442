pub mod Given
pub mod Moving
pub mod Row
pub mod Slots
pub mod Steps
