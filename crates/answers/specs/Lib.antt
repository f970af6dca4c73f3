pub mod Answer
pub mod Rows
pub mod Written
pub mod Held
