-- A product of two numbers does not depend on their order, and so neither does a dot product.
use mathlib.Core.Path.{◌≡◌, refl}
use mathlib.Core.Bool.{Bool, true, false}
use Prim.Native.Nat.{◌*◌}
use native.Mathlib.Nat.{mul_comm}
use lib.Ieee.{Float, nan, inf, fin, up, down, mul, unlike}
use Rattle.float.specs.Num.{◌⊗◌}
use Rattle.linear.specs.Vector.{dot}
use Rattle.linear.specs.declared.vector.Vector3.{Vector3}

unlike_comm : (s t : Bool) → unlike s t ≡ unlike t s
unlike_comm true true = refl
unlike_comm true false = refl
unlike_comm false true = refl
unlike_comm false false = refl

pub times_comm : (x y : Float) → x ⊗ y ≡ y ⊗ x
unfolding mul
times_comm nan nan = refl
times_comm nan (inf t) = refl
times_comm nan (fin t n d) = refl
times_comm (inf s) nan = refl
times_comm (inf s) (inf t) = cc (unlike_comm s t)
times_comm (inf s) (fin t n d) = cc (unlike_comm s t)
times_comm (fin s m e) nan = refl
times_comm (fin s m e) (inf t) = cc (unlike_comm s t)
times_comm (fin s m e) (fin t n d) = cc (unlike_comm s t, mul_comm (m * up e) (n * up d), mul_comm (down e) (down d))

pub dot_comm : (a b : Vector3) → dot a b ≡ dot b a
dot_comm a b = cc (times_comm a.x b.x, times_comm a.y b.y, times_comm a.z b.z)
