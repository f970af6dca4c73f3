-- The row so far, and what the definition still takes, is the definition's row.
use Rattle.std.proofs.Common.{◌≡◌, map, length, ◌-◌, ◌≤◌}
use Rattle.search_definition.specs.Search.{edge_points}
use Rattle.search_error.specs.Fixed.{branch_error}
use Rattle.search_refine.specs.Counted.{counted, total}
use Rattle.search_refine.specs.Point.{point_of}
use Rattle.search_edge.proofs.EdgeSteps.{still}
use Rattle.search_edge.proofs.edge.edge_row.Given as goal

abbrev pub invariant-loop-j : goal.invariant-loop-j
invariant-loop-j l =
    (length l.row.items ≤ l.j)
    × (counted (l.j - 1) (still (branch_error l.branch) (point_of l.e) (point_of l.p) (map point_of l.row.items) l.j) ≡ total (edge_points (branch_error l.branch) (point_of l.e) (point_of l.p)))
