pub mod State
pub mod Point
