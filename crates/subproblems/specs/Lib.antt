pub mod Columns
pub mod Subproblem1
pub mod Subproblem2
pub mod Subproblem3
pub mod Subproblem4
