pub mod Subproblem6
