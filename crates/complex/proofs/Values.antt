-- Products, quotients and moduli at some values, by computation.
use mathlib.Core.Path.{◌≡◌, refl}
use lib.Ieee.{Float, nan, add, sub, mul, div, neg, lt, eq, is_nan, of_int, of_bits}
use Rattle.float.specs.Num.{as_f64, infinity}
use Rattle.float.specs.Root.{sqrt}
use Rattle.complex.specs.Complex.{◌*ᶜ◌, ◌/ᶜ◌, absᶜ}
use Rattle.complex.specs.declared.Complex.{Complex}

abbrev at : Float → Float → Complex
at x y = record { re = x; im = y }

record Values : Type 0 where
  -- (1 + 2i)(3 + 4i) = -5 + 10i, and back
  product : at (as_f64 1) (as_f64 2) *ᶜ at (as_f64 3) (as_f64 4) ≡ at (neg (as_f64 5)) (as_f64 10)
  quotient : at (neg (as_f64 5)) (as_f64 10) /ᶜ at (as_f64 3) (as_f64 4) ≡ at (as_f64 1) (as_f64 2)
  -- |3 - 4i| = 5
  modulus_5 : absᶜ (at (as_f64 3) (neg (as_f64 4))) ≡ as_f64 5
  -- one infinity is an infinity; the quotient of two is no number
  modulus_infinity : absᶜ (at (as_f64 1) infinity) ≡ infinity
  modulus_nan : absᶜ (at infinity infinity) ≡ nan

values : Values
unfolding ◌*ᶜ◌ ◌/ᶜ◌ absᶜ sqrt add sub mul div neg lt eq is_nan of_int of_bits
values = record { product = refl; quotient = refl; modulus_5 = refl; modulus_infinity = refl; modulus_nan = refl }
