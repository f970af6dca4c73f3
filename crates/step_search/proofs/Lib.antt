pub mod HoldsLaws
pub mod Ran
