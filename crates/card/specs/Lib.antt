pub mod Card
pub mod Calls
pub mod Machine
pub mod Registers
pub mod Usable
