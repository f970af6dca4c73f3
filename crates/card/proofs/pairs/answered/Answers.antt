-- Of the arm and the pose of the numbers.
use Prim.Native.Nat.{ℕ}
use mathlib.Core.Path.{◌≡◌}
use mathlib.Core.List.{List}
use lib.Dec.{ltb}
use lib.Ieee.{Float}
use Rattle.linear.specs.Matrix.{Matrix}
use Rattle.linear.specs.declared.vector.Vector3.{Vector3}
use Rattle.kinematics.specs.Kinematics.{from_numbers}
use Rattle.kinematics.specs.Pose.{pose_rotation, pose_place}
use Rattle.kinematics.specs.declared.Kinematics.{Kinematics}
use Rattle.search_error.specs.Error.{t64_count}
use Rattle.card.specs.Usable.{answered}
use Rattle.card.proofs.pairs.answered.Goals as goal

met : (arm pose : List Float) (q1 : Float) (i : ℕ) {kin : Kinematics} {r : Matrix} {p : Vector3} {n : ℕ}
    → kin ≡ from_numbers arm
    → r ≡ pose_rotation pose
    → p ≡ pose_place pose
    → n ≡ t64_count kin r p q1
    → ltb i n ≡ answered arm pose q1 i
unfolding answered
met arm pose q1 i e-kin e-r e-p e = rw (e, e-kin, e-r, e-p)

pub returns : goal.returns
returns c = search met
