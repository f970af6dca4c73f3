-- Family 4, as its crate defines it.
unfoldable pub use Rattle.family4.specs.ThreeParallelTwoIntersecting.{three_parallel_two_intersecting}
