-- What is left of the walk after the state now is the whole walk after the state at entry.
use Rattle.std.proofs.Common.{◌≡◌, ◌+◌, ◌≤◌}
use Rattle.search_definition.specs.Search.{runs}
use Rattle.search_error.specs.Fixed.{branch_error}
use Rattle.search.specs.State.{points, state, afterwards}
use Rattle.search.proofs.GridSteps.{runs_from}
use Rattle.search.proofs.grid.scan_runs.Given as goal

abbrev pub invariant-loop-k : goal.invariant-loop-k
invariant-loop-k l =
    (l.s ≤ l.k)
    × (afterwards (state l.list) (runs_from (branch_error l.branch) l.branch.i (points l.row) l.fn.n l.s l.k) ≡ afterwards (state l.fn.list) (runs (branch_error l.branch) l.branch.i (points l.row) (l.fn.n + 1) 0 0))
