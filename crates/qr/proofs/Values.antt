-- The QR at some values, by computation.
use Prim.Native.Nat.{ℕ}
use mathlib.Core.Path.{◌≡◌, refl}
use lib.Ieee.{add, sub, mul, div, neg, lt, eq, of_int, of_bits}
use Rattle.float.specs.Num.{as_f64}
use Rattle.float.specs.Root.{sqrt}
use Rattle.qr.specs.Qr.{stepped, qr}
use Rattle.qr.specs.declared.Vector4.{Vector4}
use Rattle.polynomial.specs.declared.Matrix2.{Matrix2}

abbrev vector : ℕ → ℕ → ℕ → ℕ → Vector4
vector x y z w = record { x = as_f64 x; y = as_f64 y; z = as_f64 z; w = as_f64 w }

abbrev matrix : ℕ → ℕ → ℕ → ℕ → Matrix2
matrix a b c d = record { m00 = as_f64 a; m01 = as_f64 b; m10 = as_f64 c; m11 = as_f64 d }

record Values : Type 0 where
  -- a first column of zeros is skipped; of the second the part (3, 0, 4) has the norm 5, and the reflected -5 is negated
  zero_column : (qr (vector 0 0 0 0) (vector 0 3 0 4)).r ≡ matrix 0 0 0 5
  -- to a leading entry of zero the norm is added: of the part (0, 0, 1) v is (1, 0, 1), so that the null vectors are these
  first_null_vector : (qr (vector 0 0 0 0) (vector 0 0 0 1)).q2 ≡ vector 0 0 1 0
  second_null_vector : neg (qr (vector 0 0 0 0) (vector 0 0 0 1)).q3.y ≡ as_f64 1

values : Values
unfolding qr stepped sqrt add sub mul div neg lt eq of_int of_bits
values = record { zero_column = refl; first_null_vector = refl; second_null_vector = refl }
