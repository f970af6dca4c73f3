-- Document 01: "Families 1 to 5 give at most 8 answers".
use Prim.Native.Nat.{◌≤◌}
use mathlib.Core.Bool.{Bool, ◌||◌}
use lib.Ieee.{Float}
use lib.ListN.{length}
use Rattle.linear.specs.Matrix.{Matrix}
use Rattle.linear.specs.declared.vector.Vector3.{Vector3}
use Rattle.kinematics.specs.declared.Kinematics.{Kinematics}
use Rattle.families_shared.proofs.Gathered.{at_most}
use Rattle.families_wrist.specs.Wrist.{r_36}
use Rattle.family1.specs.SphericalTwoParallel as F1
use Rattle.solutionset.specs.SolutionSet2.{get_all, few}
use Rattle.families_wrist.proofs.Few.{wrist_few}

pub f1_at_q3_few : (r-0t : Matrix) (kin : Kinematics) (tolerance : Float) (p : Vector3) (q1 : Float) (q1-is-ls q3-is-ls : Bool) (q3 : Float)
    → length (F1.at_q3 r-0t kin tolerance p q1 q1-is-ls q3-is-ls q3) ≤ 2
unfolding F1.at_q3
f1_at_q3_few r-0t kin tolerance p q1 q1-is-ls q3-is-ls q3 =
    let s = F1.q2 kin tolerance p q3 in
    wrist_few kin tolerance (r_36 r-0t kin q1 s.theta q3) q1 s.theta q3 (q1-is-ls || s.is_ls || q3-is-ls)

pub f1_at_q1_few : (r-0t : Matrix) (p_0t : Vector3) (kin : Kinematics) (tolerance : Float) (q1-is-ls : Bool) (q1 : Float)
    → length (F1.at_q1 r-0t p_0t kin tolerance q1-is-ls q1) ≤ 4
unfolding F1.at_q1
f1_at_q1_few r-0t p_0t kin tolerance q1-is-ls q1 =
    let p = F1.p_13 r-0t p_0t kin q1 in
    let t = F1.t3 kin p in
    at_most (F1.at_q3 r-0t kin tolerance p q1 q1-is-ls t.is_ls) 2 2 (get_all t.set) (f1_at_q3_few r-0t kin tolerance p q1 q1-is-ls t.is_ls) (few t.set)

pub spherical_two_parallel_few : (r-0t : Matrix) (p_0t : Vector3) (kin : Kinematics) (tolerance : Float)
    → length (F1.spherical_two_parallel r-0t p_0t kin tolerance) ≤ 8
unfolding F1.spherical_two_parallel
spherical_two_parallel_few r-0t p_0t kin tolerance =
    let t = F1.t1 r-0t p_0t kin in
    at_most (F1.at_q1 r-0t p_0t kin tolerance t.is_ls) 4 2 (get_all t.set) (f1_at_q1_few r-0t p_0t kin tolerance t.is_ls) (few t.set)
