pub mod DeeperLaws
pub mod NameLaws
pub mod WalkLaws
