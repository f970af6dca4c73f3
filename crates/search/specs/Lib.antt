pub mod State
pub mod Searched
pub mod Demand
