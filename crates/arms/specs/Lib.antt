pub mod Arm
pub mod File
pub mod Plain
pub mod Agreement
pub mod Port
