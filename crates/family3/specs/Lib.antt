pub mod Spherical
