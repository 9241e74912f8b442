pub mod Mapping
pub mod Segments
pub mod VmAddress
