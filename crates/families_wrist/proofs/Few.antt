-- The wrist gives at most two answers.
use Prim.Native.Nat.{◌≤◌}
use mathlib.Core.Bool.{Bool, ◌||◌}
use native.Mathlib.Omega.{arith}
use lib.Ieee.{Float}
use lib.ListN.{length}
use Rattle.linear.specs.Matrix.{Matrix}
use Rattle.kinematics.specs.declared.Kinematics.{Kinematics}
use Rattle.families_shared.proofs.Gathered.{at_most}
use Rattle.families_wrist.specs.Wrist.{t5, wrist_q5, wrist}
use Rattle.solutionset.specs.SolutionSet2.{get_all, few}

pub wrist_q5_few : (kin : Kinematics) (tolerance : Float) (r_36 : Matrix) (q1 q2 q3 : Float) (is-ls : Bool) (q5 : Float)
    → length (wrist_q5 kin tolerance r_36 q1 q2 q3 is-ls q5) ≤ 1
unfolding wrist_q5
wrist_q5_few kin tolerance r_36 q1 q2 q3 is-ls q5 = omega arith

pub wrist_few : (kin : Kinematics) (tolerance : Float) (r_36 : Matrix) (q1 q2 q3 : Float) (is-ls : Bool)
    → length (wrist kin tolerance r_36 q1 q2 q3 is-ls) ≤ 2
unfolding wrist
wrist_few kin tolerance r_36 q1 q2 q3 is-ls =
    let t = t5 kin r_36 in
    at_most (wrist_q5 kin tolerance r_36 q1 q2 q3 (is-ls || t.is_ls)) 1 2 (get_all t.set) (wrist_q5_few kin tolerance r_36 q1 q2 q3 (is-ls || t.is_ls)) (few t.set)
