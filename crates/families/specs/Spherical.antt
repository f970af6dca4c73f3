-- Family 3, as its crate defines it.
unfoldable pub use Rattle.family3.specs.Spherical.{spherical}
