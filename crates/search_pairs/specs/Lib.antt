pub mod State
pub mod Row
