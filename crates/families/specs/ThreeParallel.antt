-- Family 5, as its crate defines it.
unfoldable pub use Rattle.family5.specs.ThreeParallel.{three_parallel}
