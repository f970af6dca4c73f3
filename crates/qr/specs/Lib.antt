pub mod Qr
pub mod Port
