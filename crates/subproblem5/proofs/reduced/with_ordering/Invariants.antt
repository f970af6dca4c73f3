-- The invariant: what is left to fill gives what all gives.
use Prim.Native.Nat.{ℕ, zero, suc, ◌-◌}
use mathlib.Core.Path.{◌≡◌}
use mathlib.Core.List.{List}
use lib.Ieee.{Float, nan}
use lib.ListN.{length, get_or, set}
use Rattle.float.specs.Num.{◌⊖◌, ◌⊗◌, ◌⊘◌, one, infinity}
use Rattle.solutionset.specs.declared.Triple.{Triple}
use Rattle.triple_sort.specs.declared.Ordered.{Ordered}
use Rattle.subproblem5.proofs.reduced.with_ordering.Given as goal

abbrev pub outside : Ordered
outside = record { ordering = nan; solution = record { first = nan; second = nan; third = nan } }

abbrev pub ordered : Float → Triple → Ordered
ordered last s = record { ordering = one ⊘ ((s.first ⊖ last) ⊗ (s.first ⊖ last)); solution = s }

-- the ordering values of k places from i on
unfoldable pub from : ℕ → ℕ → Float → List Ordered → List Ordered
from zero i last t = t
from (suc k) i last t = let s = (get_or t i outside).solution in from k (suc i) s.first (set t i (ordered last s))

abbrev pub invariant-loop-o : goal.invariant-loop-o
invariant-loop-o l = from (length l.initial.t - l.o-index) l.o-index l.last l.t ≡ from (length l.initial.t) 0 infinity l.initial.t
