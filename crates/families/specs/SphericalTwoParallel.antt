-- Family 1, as its crate defines it.
unfoldable pub use Rattle.family1.specs.SphericalTwoParallel.{spherical_two_parallel}
