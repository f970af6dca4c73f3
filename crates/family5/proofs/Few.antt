-- Document 01: "Families 1 to 5 give at most 8 answers".
use Prim.Native.Nat.{◌≤◌}
use mathlib.Core.Bool.{◌||◌}
use lib.Ieee.{Float}
use lib.ListN.{length}
use Rattle.linear.specs.Matrix.{Matrix, rot}
use Rattle.linear.specs.declared.vector.Vector3.{Vector3}
use Rattle.solutionset.specs.SolutionSet4.{get_all, few}
use Rattle.solutionset.specs.declared.Pair.{Pair}
use Rattle.kinematics.specs.declared.Kinematics.{Kinematics}
use Rattle.families_shared.specs.Place.{p_16}
use Rattle.families_elbow.specs.Elbow.{theta14}
use Rattle.family5.specs.ThreeParallel as F5
use Rattle.families_shared.proofs.Gathered.{at_most}
use Rattle.families_elbow.proofs.Few.{elbow_few}

pub f5_at_q15_few : (r_06 : Matrix) (kin : Kinematics) (tolerance : Float) (p : Vector3) (q15 : Pair)
    → length (F5.at_q15 r_06 kin tolerance p q15) ≤ 2
unfolding F5.at_q15
f5_at_q15_few r_06 kin tolerance p q15 =
    let r-01 = rot kin.h1 q15.first in
    let r-45 = rot kin.h5 q15.second in
    let t = theta14 r_06 kin tolerance r-01 r-45 in
    let s = F5.q6 r_06 kin tolerance r-01 r-45 in
    let r-14 = rot kin.h2 t.theta in
    elbow_few kin tolerance (F5.d_inner kin p r-01 r-45 r-14) t.theta q15.first q15.second s.theta (t.is_ls || s.is_ls)

pub three_parallel_few : (r_06 : Matrix) (p_0t : Vector3) (kin : Kinematics) (tolerance : Float)
    → length (F5.three_parallel r_06 p_0t kin tolerance) ≤ 8
unfolding F5.three_parallel
three_parallel_few r_06 p_0t kin tolerance =
    let p = p_16 r_06 p_0t kin in
    let t = F5.theta15 r_06 kin p in
    at_most (F5.at_q15 r_06 kin tolerance p) 2 4 (get_all t) (f5_at_q15_few r_06 kin tolerance p) (few t)
