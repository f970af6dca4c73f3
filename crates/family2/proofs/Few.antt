-- Document 01: "Families 1 to 5 give at most 8 answers".
use Prim.Native.Nat.{◌≤◌}
use mathlib.Core.Bool.{Bool, ◌||◌}
use lib.Ieee.{Float}
use lib.ListN.{length}
use Rattle.linear.specs.Matrix.{Matrix}
use Rattle.linear.specs.declared.vector.Vector3.{Vector3}
use Rattle.solutionset.specs.declared.Pair.{Pair}
use Rattle.solutionset.specs.SolutionSet2.{get_all, few}
use Rattle.kinematics.specs.declared.Kinematics.{Kinematics}
use Rattle.families_wrist.specs.Wrist.{r_36}
use Rattle.family2.specs.SphericalTwoIntersecting as F2
use Rattle.families_shared.proofs.Gathered.{at_most}
use Rattle.families_wrist.proofs.Few.{wrist_few}

pub f2_at_q12_few : (r-0t : Matrix) (kin : Kinematics) (tolerance : Float) (q3 : Float) (is-ls : Bool) (q12 : Pair)
    → length (F2.at_q12 r-0t kin tolerance q3 is-ls q12) ≤ 2
unfolding F2.at_q12
f2_at_q12_few r-0t kin tolerance q3 is-ls q12 =
    let q1 = q12.first in
    let q2 = q12.second in
    wrist_few kin tolerance (r_36 r-0t kin q1 q2 q3) q1 q2 q3 is-ls

pub f2_at_q3_few : (r-0t : Matrix) (kin : Kinematics) (tolerance : Float) (p : Vector3) (t3-is-ls : Bool) (q3 : Float)
    → length (F2.at_q3 r-0t kin tolerance p t3-is-ls q3) ≤ 4
unfolding F2.at_q3
f2_at_q3_few r-0t kin tolerance p t3-is-ls q3 =
    let t = F2.t12 kin p q3 in
    at_most (F2.at_q12 r-0t kin tolerance q3 (t3-is-ls || t.is_ls)) 2 2 (get_all t.set) (f2_at_q12_few r-0t kin tolerance q3 (t3-is-ls || t.is_ls)) (few t.set)

pub spherical_two_intersecting_few : (r-0t : Matrix) (p_0t : Vector3) (kin : Kinematics) (tolerance : Float)
    → length (F2.spherical_two_intersecting r-0t p_0t kin tolerance) ≤ 8
unfolding F2.spherical_two_intersecting
spherical_two_intersecting_few r-0t p_0t kin tolerance =
    let p = F2.p_16 r-0t p_0t kin in
    let t = F2.t3 kin p in
    at_most (F2.at_q3 r-0t kin tolerance p t.is_ls) 4 2 (get_all t.set) (f2_at_q3_few r-0t kin tolerance p t.is_ls) (few t.set)
