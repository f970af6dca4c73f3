-- What the code holds of a search, in the definition's words, as the crates below define it.
pub use Rattle.search_refine.specs.Counted.{Counted, with_count, evals_of, total, counted}
pub use Rattle.search_dip.specs.Valley.{valley}
pub use Rattle.search_pairs.specs.Row.{point, sampled, column, points}
pub use Rattle.search_pairs.specs.State.{Roomy, angle_of, component_of, Lists, lists_of, State, held, emptied, state}
unfoldable pub use Rattle.search_pairs.specs.State.{afterwards}
pub use Rattle.search_edge.specs.State.{gap}
