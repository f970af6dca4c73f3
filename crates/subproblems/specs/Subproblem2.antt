-- subproblem2 of subproblems/mod.rs: "Solves for `theta1` and `theta2` where `rot(k1, theta1) * p1 = rot(k2, theta2) * p2` if possible.
-- If not, minimizes `|| rot(k1, theta1) * p1 - rot(k2, theta2) * p2 ||`. Also returns a boolean of whether or not `{ theta1, theta2 }` is a least-squares solution."
use Rattle.std.specs.Prelude.{cond, ◌||◌, ltb, Float}
use Rattle.std.specs.Float.{binary64}
use Rattle.std.specs.Float.Ieee.{of_bits, lt}
use Rattle.float.specs.Num.{◌⊖◌, nought}
use Rattle.float.specs.Number.{abs}
use Rattle.linear.specs.Vector.{dot, norm, normalize}
use Rattle.linear.specs.declared.vector.Vector3.{Vector3}
use Rattle.solutionset.specs.SolutionSet2.{size, duplicated, expect_one, expect_two}
use Rattle.solutionset.specs.declared.Pair.{Pair}
use Rattle.solutionset.specs.declared.set2.SolutionSet2.{SolutionSet2}
use Rattle.solutionset.specs.declared.set2.SolutionSet2.TheVariants.{One, Two}
use Rattle.subproblems.specs.Subproblem4.{subproblem4}
use Rattle.subproblems.specs.declared.Solved2.{Solved2}

-- 1e-8
abbrev pub norm_tolerance : Float
norm_tolerance = of_bits binary64 0x3e45_798e_e230_8c3a

-- "Reverse theta2 and duplicate any angle with less solutions"
unfoldable pub crossed : SolutionSet2 Float → SolutionSet2 Float → SolutionSet2 Pair
crossed theta1 theta2 =
    let t1 = expect_two nought (duplicated theta1) in
    let t2 = expect_two nought (duplicated theta2) in
    Two (record { first = t1.0; second = t2.1 }) (record { first = t1.1; second = t2.0 })

unfoldable pub paired : SolutionSet2 Float → SolutionSet2 Float → SolutionSet2 Pair
unfolding crossed
paired theta1 theta2 =
    cond (ltb 1 (size theta1) || ltb 1 (size theta2)) (crossed theta1 theta2)
    (One (record { first = expect_one nought theta1; second = expect_one nought theta2 }))

unfoldable pub subproblem2 : Vector3 → Vector3 → Vector3 → Vector3 → Solved2 Pair
unfolding subproblem4 paired
subproblem2 p1 p2 k1 k2 =
    let p1-norm = normalize p1 in
    let p2-norm = normalize p2 in
    let theta1 = subproblem4 k2 p1-norm k1 (dot k2 p2-norm) in
    let theta2 = subproblem4 k1 p2-norm k2 (dot k1 p1-norm) in
    record {
      set = paired theta1.set theta2.set;
      is_ls = lt norm_tolerance (abs (norm p1 ⊖ norm p2)) || theta1.is_ls || theta2.is_ls;
    }
