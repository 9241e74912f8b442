pub mod Bytes
pub mod FieldName
pub mod PlaceNumbers
pub mod Reads
pub mod Runtime
