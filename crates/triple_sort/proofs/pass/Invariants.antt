-- The invariant: what is left of the pass gives what all of it gives, and with what was exchanged before tells whether all of it exchanges any.
use Prim.Native.Nat.{ℕ, ◌-◌}
use mathlib.Core.Path.{◌≡◌}
use mathlib.Core.Bool.{Bool, ◌||◌}
use mathlib.Core.List.{List}
use lib.Ieee.{nan}
use lib.ListN.{length}
use Rattle.triple_sort.specs.Sort.{ordered_above}
use Rattle.triple_sort.specs.declared.Ordered.{Ordered}
use Rattle.triple_sort.proofs.Passes.{pass_from, any_from}
use Rattle.triple_sort.proofs.pass.Given as goal

abbrev pub outside : Ordered
outside = record { ordering = nan; solution = record { first = nan; second = nan; third = nan } }

abbrev pub from : ℕ → ℕ → List Ordered → List Ordered
from k i t = pass_from ordered_above outside k i t

abbrev pub some : ℕ → ℕ → List Ordered → Bool
some k i t = any_from ordered_above outside k i t

abbrev pub invariant-loop-j : goal.invariant-loop-j
invariant-loop-j l =
    let n = length l.initial.t in
    (from (n - l.j) (l.j - 1) l.t ≡ from (n - 1) 0 l.initial.t)
    × (l.any || some (n - l.j) (l.j - 1) l.t ≡ some (n - 1) 0 l.initial.t)
