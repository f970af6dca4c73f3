-- What is left of the definition's bisections after those made.
use Rattle.std.proofs.Common.{◌≡◌, ◌-◌}
use Rattle.search_definition.specs.Search.{bisect}
use Rattle.search_error.specs.Fixed.{branch_error}
use Rattle.search_refine.specs.Counted.{counted, total}
use Rattle.search_edge.specs.State.{gap}
use Rattle.search_edge.proofs.edge.bisect.Given as goal

abbrev pub invariant-loop-k : goal.invariant-loop-k
invariant-loop-k l =
    counted l.k (bisect (branch_error l.branch) (16 - l.k) (gap l.h)) ≡ total (bisect (branch_error l.branch) 16 (gap l.fn.g))
