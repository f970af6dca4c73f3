-- The invariant: the solutions passed.
use mathlib.Core.Path.{◌≡◌}
use mathlib.Core.List.{map}
use lib.ListN.{length, take}
use Rattle.subproblem5.specs.Port.{by_first}
use Rattle.subproblem5.proofs.reduced.by_first.Given as goal

abbrev pub invariant-loop-solution : goal.invariant-loop-solution
invariant-loop-solution l =
    (length l.ordered.items ≡ l.solution-index)
    × (l.ordered.items ≡ map by_first (take l.solution-index l.solution-items))
