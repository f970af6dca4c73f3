pub mod SameError
pub mod Strict
