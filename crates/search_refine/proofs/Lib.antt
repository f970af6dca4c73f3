pub mod Count
pub mod RefineSteps
