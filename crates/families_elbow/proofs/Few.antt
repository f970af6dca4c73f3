-- The elbow gives at most two answers.
use Prim.Native.Nat.{◌≤◌}
use mathlib.Core.Bool.{Bool, ◌||◌}
use native.Mathlib.Omega.{arith}
use lib.Ieee.{Float}
use lib.ListN.{length}
use Rattle.linear.specs.declared.vector.Vector3.{Vector3}
use Rattle.kinematics.specs.declared.Kinematics.{Kinematics}
use Rattle.families_shared.proofs.Gathered.{at_most}
use Rattle.families_elbow.specs.Elbow.{theta3, theta14, elbow_q3, elbow}
use Rattle.solutionset.specs.SolutionSet2.{get_all, few}

pub elbow_q3_few : (kin : Kinematics) (tolerance : Float) (d_inner : Vector3) (theta14 q1 q5 q6 : Float) (is-ls : Bool) (q3 : Float)
    → length (elbow_q3 kin tolerance d_inner theta14 q1 q5 q6 is-ls q3) ≤ 1
unfolding elbow_q3
elbow_q3_few kin tolerance d_inner theta14 q1 q5 q6 is-ls q3 = omega arith

pub elbow_few : (kin : Kinematics) (tolerance : Float) (d_inner : Vector3) (theta14 q1 q5 q6 : Float) (is-ls : Bool)
    → length (elbow kin tolerance d_inner theta14 q1 q5 q6 is-ls) ≤ 2
unfolding elbow
elbow_few kin tolerance d_inner theta14 q1 q5 q6 is-ls =
    let t = theta3 kin d_inner in
    at_most (elbow_q3 kin tolerance d_inner theta14 q1 q5 q6 (is-ls || t.is_ls)) 1 2 (get_all t.set) (elbow_q3_few kin tolerance d_inner theta14 q1 q5 q6 (is-ls || t.is_ls)) (few t.set)
