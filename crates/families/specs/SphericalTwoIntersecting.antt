-- Family 2, as its crate defines it.
unfoldable pub use Rattle.family2.specs.SphericalTwoIntersecting.{spherical_two_intersecting}
