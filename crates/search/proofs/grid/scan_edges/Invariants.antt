-- The edges that are left after the state now are all edges after the state at entry.
use Rattle.std.proofs.Common.{◌≡◌, ◌-◌}
use Rattle.search_definition.specs.Search.{edges}
use Rattle.search_error.specs.Fixed.{branch_error}
use Rattle.search.specs.State.{points, state, afterwards}
use Rattle.search.proofs.grid.scan_edges.Given as goal

abbrev pub invariant-loop-k : goal.invariant-loop-k
invariant-loop-k l =
    afterwards (state l.list) (edges (branch_error l.branch) l.branch.i (points l.row) (l.fn.n - l.k) l.k) ≡ afterwards (state l.fn.list) (edges (branch_error l.branch) l.branch.i (points l.row) l.fn.n 0)
