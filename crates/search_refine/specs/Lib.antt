pub mod Counted
pub mod Bracket
pub mod Point
