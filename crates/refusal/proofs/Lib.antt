pub mod GuardedLaws
pub mod Lists
pub mod RefusalLaws
