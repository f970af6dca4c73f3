pub mod Lent
pub mod Counted
