-- Forward kinematics over plain numbers.
use Rattle.std.specs.Prelude.{ℕ, cond, List, eqb, Float, length}
use Rattle.kinematics.specs.Kinematics.{from_numbers}
use Rattle.kinematics.specs.Pose.{pose_numbers, forward_kinematics}

-- Document 01's "5. The arm is not 39 numbers. 6. The pose is not 12 numbers", here of the list that the pose goes to, and a number of this call's own: 18, the
-- angles are not 6 numbers. The first that applies, or 0.
abbrev pub forward_refusal : List Float → List Float → List Float → ℕ
forward_refusal arm angles pose = cond (eqb (length arm) 39) (cond (eqb (length pose) 12) (cond (eqb (length angles) 6) 0 18) 6) 5

-- what the list holds after the call: the pose of these angles, or what it held
abbrev pub forward_pose : List Float → List Float → List Float → List Float
forward_pose arm angles pose = cond (eqb (forward_refusal arm angles pose) 0) (pose_numbers (forward_kinematics (from_numbers arm) angles)) pose
