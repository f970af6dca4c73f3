-- The wanted rotation times the transpose of the locked joint's own.
use Prim.Native.Nat.{ℕ}
use Rattle.std.proofs.Common.{◌≡◌, ◌∙◌, ap, ap₂}
use mathlib.Core.List.{List}
use lib.Ieee.{Float}
use Rattle.linear.specs.Matrix.{Matrix, product, transpose}
use Rattle.linear.specs.declared.vector.Vector3.{Vector3}
use Rattle.kinematics.specs.Pose.{pose_rotation, pose_place, pose_numbers}
use Rattle.kinematics.specs.declared.Pose.{Pose}
use Rattle.partial.specs.Partial.{locked_rotation}
use Rattle.track.specs.Reduced.{handed_on}
use Rattle.track.proofs.reduced.handed_on.Goals as goal

met : (arm : List Float) (joint : ℕ) (angle : Float) (pose : List Float) {r-n w t r : Matrix} {p : Vector3} {l : List Float}
    → r-n ≡ locked_rotation arm angle joint
    → w ≡ pose_rotation pose
    → t ≡ transpose r-n
    → r ≡ product w t
    → p ≡ pose_place pose
    → l ≡ pose_numbers (record { rotation = r; place = p })
    → l ≡ handed_on arm joint angle pose
unfolding handed_on
met arm joint angle pose {r = r} e-n e-w e-t e-r e-p e-l =
    let rotation : r ≡ product (pose_rotation pose) (transpose (locked_rotation arm angle joint)) = e-r ∙ ap₂ product e-w (e-t ∙ ap transpose e-n) in
    e-l ∙ ap₂ (λ (m : Matrix) (place : Vector3). pose_numbers (record { rotation = m; place = place })) rotation e-p

pub returns : goal.returns
returns c = search met
