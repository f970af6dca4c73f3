pub mod Output
pub mod Held
pub mod Standing
pub mod Progress
pub mod Calls
