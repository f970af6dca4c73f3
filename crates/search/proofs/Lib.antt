pub mod GridSteps
pub mod Listed
pub mod Demand
