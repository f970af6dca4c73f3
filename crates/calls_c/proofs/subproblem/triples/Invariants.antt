-- The invariant: one for each turn.
use mathlib.Core.Path.{◌≡◌}
use lib.ListN.{length}
use Rattle.calls_c.proofs.subproblem.triples.Given as goal

abbrev pub invariant-loop-t : goal.invariant-loop-t
invariant-loop-t l = length l.all.items ≡ l.t-index
