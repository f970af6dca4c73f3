-- The numbers of the arm that is left.
use Prim.Native.Nat.{ℕ}
use mathlib.Core.Path.{◌≡◌}
use mathlib.Core.List.{List}
use lib.Ieee.{Float}
use Rattle.linear.specs.Matrix.{Matrix, identity}
use Rattle.partial.specs.Partial.{forward_kinematics_partial}
use Rattle.partial.specs.declared.Partial.{Partial}
use Rattle.track.specs.Reduced.{to_numbers, reduced_arm}
use Rattle.track.proofs.reduced.reduced_arm.Goals as goal

met : (arm : List Float) (joint : ℕ) (angle : Float) {m : Matrix} {left : Partial} {l : List Float}
    → m ≡ identity
    → left ≡ forward_kinematics_partial arm angle joint m
    → l ≡ to_numbers left.kin
    → l ≡ reduced_arm arm joint angle
unfolding reduced_arm
met arm joint angle e e-p e-l = rw (← e, ← e-p) e-l

pub returns : goal.returns
returns c = search met
