pub mod Limits
pub mod Allowed
