-- The first k samples are the definition's.
use Rattle.search_error.specs.Fixed.{error_at}
use Rattle.search.specs.Searched.{Gridded}
use Rattle.search.proofs.grid.sample_grid.Given as goal

abbrev pub invariant-loop-k : goal.invariant-loop-k
invariant-loop-k l = Gridded (error_at l.fixed) l.fn.n l.k l.samples
