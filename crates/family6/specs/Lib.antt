pub mod TwoParallel
pub mod Kept
