-- The operations at some values, by computation.
use mathlib.Core.Path.{◌≡◌, refl}
use Prim.Native.Nat.{ℕ}
use lib.Ieee.{add, sub, mul, neg, of_int, of_bits}
use Rattle.float.specs.Num.{as_f64}
use Rattle.float.specs.Root.{sqrt}
use Rattle.linear.specs.Vector.{dot, cross, norm}
use Rattle.linear.specs.Matrix.{apply, rodrigues}
use Rattle.linear.specs.declared.vector.Vector3.{Vector3}

abbrev vector : ℕ → ℕ → ℕ → Vector3
vector x y z = record { x = as_f64 x; y = as_f64 y; z = as_f64 z }

record Values : Type 0 where
  dot_product : dot (vector 1 2 3) (vector 4 5 6) ≡ as_f64 32
  x_cross_y : cross (vector 1 0 0) (vector 0 1 0) ≡ vector 0 0 1
  norm_7 : norm (vector 2 3 6) ≡ as_f64 7
  -- about the z axis by the angle whose sine is 1 and whose cosine is 0
  x_to_y : apply (rodrigues (vector 0 0 1) (as_f64 1) (as_f64 0)) (vector 1 0 0) ≡ vector 0 1 0

values : Values
unfolding norm sqrt apply rodrigues add sub mul neg of_int of_bits
values = record { dot_product = refl; x_cross_y = refl; norm_7 = refl; x_to_y = refl }
