-- Neither set is empty, whichever arm subproblem4 takes.
use Prim.Native.Nat.{◌<◌}
use mathlib.Core.Path.{◌≡◌}
use mathlib.Core.Bool.{Bool, true, false, cond}
use native.Mathlib.Omega.{arith}
use lib.Ieee.{Float, lt}
use Rattle.float.specs.Num.{◌⊕◌, ◌⊖◌, ◌⊗◌}
use Rattle.linear.specs.Vector.{dot}
use Rattle.linear.specs.declared.vector.Vector3.{Vector3}
use Rattle.solutionset.specs.SolutionSet2.{size}
use Rattle.solutionset.specs.declared.set2.SolutionSet2.TheVariants.{One}
use Rattle.subproblems.specs.Columns.{columns, along}
use Rattle.subproblems.specs.Subproblem4.{either_side, subproblem4}
use Rattle.subproblems.specs.declared.Solved2.{Solved2}
use Rattle.subproblems.proofs.sp2.subproblem2.Goals as goal

arms : (t : Bool) (x0 x1 xi perp0 perp1 x : Float) {r : Solved2 Float}
    → r ≡ cond t (record { set = either_side x0 x1 xi perp0 perp1; is_ls = false }) (record { set = One x; is_ls = true })
    → 0 < size r.set
unfolding either_side
arms true x0 x1 xi perp0 perp1 x e = rw e (omega arith)
arms false x0 x1 xi perp0 perp1 x e = rw e (omega arith)

some : (h p k : Vector3) (d : Float) {r : Solved2 Float} → r ≡ subproblem4 h p k d → 0 < size r.set
unfolding subproblem4
some h p k d e =
    let a = columns k p in
    let a0 = dot h a.first in
    let a1 = dot h a.second in
    let b = d ⊖ along h k p in
    arms (lt (b ⊗ b) (a0 ⊗ a0 ⊕ a1 ⊗ a1)) _ _ _ _ _ _ e

pub paired-requires : goal.paired-requires
paired-requires c = (search some, search some)
