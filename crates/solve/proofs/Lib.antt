pub mod Accepted
pub mod Lent
pub mod Demand3
pub mod Limited
pub mod Solves
