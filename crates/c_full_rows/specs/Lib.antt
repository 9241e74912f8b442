pub mod FullRows
