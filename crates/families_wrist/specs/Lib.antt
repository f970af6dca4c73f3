pub mod Wrist
