pub mod CertainLaws
pub mod ItemLaws
pub mod JoinedNameLaws
pub mod OpenLaws
pub mod ReadLaws
pub mod Worked
