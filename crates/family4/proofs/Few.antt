-- Document 01: "Families 1 to 5 give at most 8 answers".
use Prim.Native.Nat.{◌≤◌}
use mathlib.Core.Bool.{Bool, ◌||◌}
use lib.Ieee.{Float}
use lib.ListN.{length}
use Rattle.linear.specs.Matrix.{Matrix, rot}
use Rattle.linear.specs.declared.vector.Vector3.{Vector3}
use Rattle.kinematics.specs.declared.Kinematics.{Kinematics}
use Rattle.families_shared.specs.Place.{p_16}
use Rattle.families_elbow.specs.Elbow.{theta14}
use Rattle.family4.specs.ThreeParallelTwoIntersecting as F4
use Rattle.solutionset.specs.SolutionSet2.{get_all, few}
use Rattle.families_shared.proofs.Gathered.{at_most}
use Rattle.families_elbow.proofs.Few.{elbow_few}

pub f4_at_q5_few : (r_06 : Matrix) (kin : Kinematics) (tolerance : Float) (p : Vector3) (r-01 : Matrix) (q1 : Float) (theta1-is-ls theta5-is-ls : Bool) (q5 : Float)
    → length (F4.at_q5 r_06 kin tolerance p r-01 q1 theta1-is-ls theta5-is-ls q5) ≤ 2
unfolding F4.at_q5
f4_at_q5_few r_06 kin tolerance p r-01 q1 theta1-is-ls theta5-is-ls q5 =
    let r-45 = rot kin.h5 q5 in
    let t = theta14 r_06 kin tolerance r-01 r-45 in
    let r-14 = rot kin.h2 t.theta in
    let s = F4.q6 r_06 kin tolerance r-01 r-45 r-14 in
    elbow_few kin tolerance (F4.d_inner kin p r-01 r-14) t.theta q1 q5 s.theta
    (theta1-is-ls || theta5-is-ls || t.is_ls || s.is_ls)

pub f4_at_q1_few : (r_06 : Matrix) (kin : Kinematics) (tolerance : Float) (p : Vector3) (theta1-is-ls : Bool) (q1 : Float)
    → length (F4.at_q1 r_06 kin tolerance p theta1-is-ls q1) ≤ 4
unfolding F4.at_q1
f4_at_q1_few r_06 kin tolerance p theta1-is-ls q1 =
    let r-01 = rot kin.h1 q1 in
    let t = F4.theta5 r_06 kin r-01 in
    at_most (F4.at_q5 r_06 kin tolerance p r-01 q1 theta1-is-ls t.is_ls) 2 2 (get_all t.set) (f4_at_q5_few r_06 kin tolerance p r-01 q1 theta1-is-ls t.is_ls) (few t.set)

pub three_parallel_two_intersecting_few : (r_06 : Matrix) (p_0t : Vector3) (kin : Kinematics) (tolerance : Float)
    → length (F4.three_parallel_two_intersecting r_06 p_0t kin tolerance) ≤ 8
unfolding F4.three_parallel_two_intersecting
three_parallel_two_intersecting_few r_06 p_0t kin tolerance =
    let p = p_16 r_06 p_0t kin in
    let t = F4.theta1 kin p in
    at_most (F4.at_q1 r_06 kin tolerance p t.is_ls) 4 2 (get_all t.set) (f4_at_q1_few r_06 kin tolerance p t.is_ls) (few t.set)
