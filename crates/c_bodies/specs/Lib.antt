pub mod Singletons
