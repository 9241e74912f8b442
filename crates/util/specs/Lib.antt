pub mod BigEndian
pub mod Buffer
pub mod Cstr
pub mod CstrLaws
pub mod Letters
pub mod LittleEndian
pub mod Pointer
