pub mod BlocksLaws
