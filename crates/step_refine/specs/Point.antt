-- The search's points, by the name that the crates above read.
pub use Rattle.search_refine.specs.declared.Point.{Point}
