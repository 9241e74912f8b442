pub mod Signed
pub mod AnswersLaws
pub mod BigEndianLaws
pub mod BufferLaws
pub mod LittleEndianLaws
pub mod PointerLaws
