pub mod Accepted
pub mod InForce
