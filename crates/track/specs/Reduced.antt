-- The arm of six axes that is left where a joint is locked, as numbers, and the pose that it is to make.
use Rattle.std.specs.Prelude.{ℕ, List, [], ◌∷◌, ◌++◌, Float}
use Rattle.linear.specs.Matrix.{product, transpose, identity}
use Rattle.linear.specs.declared.vector.Vector3.{Vector3}
use Rattle.kinematics.specs.Pose.{pose_rotation, pose_place, pose_numbers}
use Rattle.kinematics.specs.declared.Kinematics.{Kinematics}
use Rattle.partial.specs.Partial.{locked_rotation, forward_kinematics_partial}

-- the 39 numbers of an arm: "An arm is the six axes h, then the seven offsets p, three numbers each." (document 01)
abbrev xyz : Vector3 → List Float
xyz v = v.x ∷ v.y ∷ v.z ∷ []

unfoldable pub to_numbers : Kinematics → List Float
to_numbers kin =
    xyz kin.h1 ++ xyz kin.h2 ++ xyz kin.h3 ++ xyz kin.h4 ++ xyz kin.h5 ++ xyz kin.h6 ++ xyz kin.p0 ++ xyz kin.p1 ++ xyz kin.p2 ++ xyz kin.p3 ++ xyz kin.p4 ++ xyz kin.p5 ++ xyz kin.p6

-- the arm that forward_kinematics_partial leaves
unfoldable pub reduced_arm : List Float → ℕ → Float → List Float
reduced_arm arm joint angle = to_numbers (forward_kinematics_partial arm angle joint identity).kin

-- "The pose handed on is the wanted rotation times the transpose of the locked joint's own rotation."
unfoldable pub handed_on : List Float → ℕ → Float → List Float → List Float
handed_on arm joint angle pose = pose_numbers (record { rotation = product (pose_rotation pose) (transpose (locked_rotation arm angle joint)); place = pose_place pose })
