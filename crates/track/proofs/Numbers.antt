-- How many numbers the arm that is left and the pose handed on have.
use Prim.Native.Nat.{ℕ}
use mathlib.Core.Path.{◌≡◌, refl}
use mathlib.Core.List.{List}
use lib.Ieee.{Float}
use lib.ListN.{length}
use Rattle.track.specs.Reduced.{to_numbers, reduced_arm, handed_on}

pub reduced_long : (arm : List Float) (joint : ℕ) (angle : Float) → length (reduced_arm arm joint angle) ≡ 39
unfolding reduced_arm to_numbers
reduced_long arm joint angle = refl

pub handed_long : (arm : List Float) (joint : ℕ) (angle : Float) (pose : List Float) → length (handed_on arm joint angle pose) ≡ 12
unfolding handed_on
handed_long arm joint angle pose = refl
