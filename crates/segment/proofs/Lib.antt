pub mod MappingLaws
pub mod SegmentsLaws
pub mod VmAddressLaws
pub mod WalkLaws
