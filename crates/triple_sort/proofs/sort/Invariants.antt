-- The invariant: the passes that are left, counted on from those made, give what all give.
use Prim.Native.Nat.{ℕ, ◌+◌, ◌-◌}
use mathlib.Core.Path.{◌≡◌}
use lib.ListN.{length}
use Rattle.triple_sort.specs.Sort.{SortOf, ordered_above, by_passes}
use Rattle.triple_sort.specs.declared.Ordered.{Ordered}
use Rattle.triple_sort.proofs.sort.Given as goal

abbrev pub counted : ℕ → SortOf Ordered → SortOf Ordered
counted made s = record { result = s.result; passes = made + s.passes }

abbrev pub invariant-loop-made : goal.invariant-loop-made
invariant-loop-made l =
    let n = length l.initial.t in
    counted (l.made - 1) (by_passes ordered_above (n - l.made) l.t) ≡ by_passes ordered_above (n - 1) l.initial.t
