-- The invariant: those of the heights passed, at most four of each.
use Prim.Native.Nat.{◌*◌, ◌≤◌}
use mathlib.Core.Path.{◌≡◌}
use mathlib.Core.List.{flat_map}
use lib.ListN.{length, take}
use Rattle.subproblem5.specs.Port.{at_root}
use Rattle.subproblem5.proofs.sp5.candidates.Given as goal

abbrev pub invariant-loop-h : goal.invariant-loop-h
invariant-loop-h l =
    (length l.found.items ≤ 4 * l.h-index)
    × (l.found.items ≡ flat_map (at_root l.c1 l.c3 l.k2) (take l.h-index l.h-items))
