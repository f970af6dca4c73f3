-- The components that are left after the state now are all after the state at entry. Each adds at most 11 n pairs and 782 n evaluations.
use Rattle.std.proofs.Common.{◌≡◌, ◌≤◌, ◌+◌, ◌*◌}
use Rattle.search_error.specs.Fixed.{error_at}
use Rattle.search.specs.State.{column, state, afterwards}
use Rattle.search.specs.Searched.{of_components}
use Rattle.search.proofs.GridSteps.{components_from}
use Rattle.search.proofs.grid.search_components.Given as goal

abbrev pub invariant-loop-i : goal.invariant-loop-i
invariant-loop-i l =
    (l.list.pairs ≤ l.fn.list.pairs + 4400 * l.i)
    × (l.list.evals ≤ l.fn.list.evals + 312800 * l.i)
    × (afterwards (state l.list) (components_from (error_at l.fixed) l.fn.n (column l.samples) l.i) ≡ afterwards (state l.fn.list) (of_components (error_at l.fixed) l.fn.n (column l.samples)))
