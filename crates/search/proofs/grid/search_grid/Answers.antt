-- The list holds the grid's samples.
use Rattle.search_error.specs.Fixed.{error_at}
use Rattle.search.specs.State.{state}
use Rattle.search.proofs.GridSteps.{search_done}
use Rattle.search.proofs.grid.search_grid.Goals as goal

pub returns : goal.returns
returns c =
    let a = c.args in
    search_done (error_at a.fixed.now) a.n _ c.sample_grid-evals.ensures.1 (state a.list.now) c.sample_grid-evals.ensures.0 c.search_components.ensures
