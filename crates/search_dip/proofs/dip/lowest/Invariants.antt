-- What is left of the definition's steps after those made.
use Rattle.std.proofs.Common.{◌≡◌, ◌+◌}
use Rattle.search_error.specs.Fixed.{branch_error}
use Rattle.search_dip.specs.Valley.{valley}
use Rattle.search_dip.proofs.DipSteps.{Going}
use Rattle.search_dip.proofs.dip.lowest.Given as goal

abbrev pub invariant-loop-k : goal.invariant-loop-k
invariant-loop-k l =
    (l.v.evals ≡ l.k + 2) × Going (branch_error l.branch) l.fn.sign l.fn.a l.fn.b (valley l.v) l.v.evals l.k
