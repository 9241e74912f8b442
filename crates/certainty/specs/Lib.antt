pub mod Certain
pub mod JoinedName
