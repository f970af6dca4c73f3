pub mod DipSteps
pub mod Dips
