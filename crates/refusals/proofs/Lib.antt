pub mod Outcomes
pub mod Judged
