pub mod Convolution
pub mod Triangular
pub mod Const
pub mod Roots
pub mod Quadratic
pub mod Cubic
pub mod Quartic
