pub mod Holds
pub mod Ran
