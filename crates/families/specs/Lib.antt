pub mod SphericalTwoParallel
pub mod SphericalTwoIntersecting
pub mod Spherical
pub mod ThreeParallelTwoIntersecting
pub mod ThreeParallel
