pub mod Partial
pub mod Columns
