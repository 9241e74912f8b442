pub mod CertainLaws
pub mod NamesLaws
