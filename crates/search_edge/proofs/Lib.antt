pub mod Rows
pub mod EdgeSteps
