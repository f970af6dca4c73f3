pub mod Reduced
pub mod Subproblem5
pub mod Port
