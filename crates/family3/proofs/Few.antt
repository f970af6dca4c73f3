-- Document 01: "Families 1 to 5 give at most 8 answers".
use Prim.Native.Nat.{◌≤◌}
use mathlib.Core.Bool.{false}
use lib.Ieee.{Float}
use lib.ListN.{length}
use Rattle.linear.specs.Matrix.{Matrix}
use Rattle.linear.specs.declared.vector.Vector3.{Vector3}
use Rattle.solutionset.specs.SolutionSet4.{get_all, few}
use Rattle.solutionset.specs.declared.Triple.{Triple}
use Rattle.kinematics.specs.declared.Kinematics.{Kinematics}
use Rattle.families_shared.specs.Place.{p_16}
use Rattle.families_wrist.specs.Wrist.{r_36}
use Rattle.family3.specs.Spherical as F3
use Rattle.families_shared.proofs.Gathered.{at_most}
use Rattle.families_wrist.proofs.Few.{wrist_few}

pub f3_at_q123_few : (r_06 : Matrix) (kin : Kinematics) (tolerance : Float) (q123 : Triple) → length (F3.at_q123 r_06 kin tolerance q123) ≤ 2
unfolding F3.at_q123
f3_at_q123_few r_06 kin tolerance q123 =
    let q1 = q123.first in
    let q2 = q123.second in
    let q3 = q123.third in
    wrist_few kin tolerance (r_36 r_06 kin q1 q2 q3) q1 q2 q3 false

pub spherical_few : (r_06 : Matrix) (p_0t : Vector3) (kin : Kinematics) (tolerance : Float) → length (F3.spherical r_06 p_0t kin tolerance) ≤ 8
unfolding F3.spherical
spherical_few r_06 p_0t kin tolerance =
    let t = F3.t123 kin (p_16 r_06 p_0t kin) in
    at_most (F3.at_q123 r_06 kin tolerance) 2 4 (get_all t) (f3_at_q123_few r_06 kin tolerance) (few t)
