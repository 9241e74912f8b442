pub mod Beside
pub mod Claim
pub mod Items
pub mod Keys
pub mod Texts
