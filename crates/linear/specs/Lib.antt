pub mod Vector
pub mod Matrix
