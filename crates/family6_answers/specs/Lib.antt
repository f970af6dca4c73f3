pub mod FixedAnswer
pub mod Pairs
