pub mod Negated
pub mod Gathered
