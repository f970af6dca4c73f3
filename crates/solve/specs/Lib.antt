pub mod InNumbers
pub mod Solve
pub mod Demand3
pub mod Limited
