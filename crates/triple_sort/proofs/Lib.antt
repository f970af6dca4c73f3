pub mod NumberOrder
pub mod Sooner
pub mod Sorting
pub mod Passes
