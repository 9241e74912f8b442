pub mod ChainLaws
pub mod ContextLaws
pub mod PathLaws
