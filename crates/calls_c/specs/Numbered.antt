-- The families by number.
use Rattle.std.specs.Prelude.{ℕ, cond, List, [], eqb, Float}
use Rattle.float.specs.Num.{millionth}
use Rattle.linear.specs.Matrix.{Matrix}
use Rattle.linear.specs.declared.vector.Vector3.{Vector3}
use Rattle.kinematics.specs.Kinematics.{from_numbers}
use Rattle.kinematics.specs.Pose.{pose_rotation, pose_place}
use Rattle.kinematics.specs.declared.Kinematics.{Kinematics}
use Rattle.answers.specs.declared.Answer.{Answer}
use Rattle.families.specs.SphericalTwoParallel.{spherical_two_parallel}
use Rattle.families.specs.SphericalTwoIntersecting.{spherical_two_intersecting}
use Rattle.families.specs.Spherical.{spherical}
use Rattle.families.specs.ThreeParallelTwoIntersecting.{three_parallel_two_intersecting}
use Rattle.families.specs.ThreeParallel.{three_parallel}

-- families 1 to 5 in document 01's order; no other number has answers
unfoldable pub by_number : ℕ → Matrix → Vector3 → Kinematics → Float → List Answer
by_number id r p kin tolerance =
    cond (eqb id 1)
    (spherical_two_parallel r p kin tolerance)
    (cond (eqb id 2)
    (spherical_two_intersecting r p kin tolerance)
    (cond (eqb id 3)
    (spherical r p kin tolerance)
    (cond (eqb id 4)
    (three_parallel_two_intersecting r p kin tolerance)
    (cond (eqb id 5)
    (three_parallel r p kin tolerance)
    []))))

-- of an arm of 39 numbers and a pose of 12, with subproblem1's flag by 1e-6
abbrev pub family_answers : ℕ → List Float → List Float → List Answer
family_answers id arm pose = by_number id (pose_rotation pose) (pose_place pose) (from_numbers arm) millionth
