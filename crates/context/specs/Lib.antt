pub mod Bits
pub mod Context
pub mod Enumeration
pub mod Field
pub mod Method
pub mod TypeContext
