-- The methods of `f64` say what the definitions of specs/Number.antt say, and its constant is the infinity. Assumes nothing.
use mathlib.Core.Path.{◌≡◌, refl}
use mathlib.Core.Bool.{false}
use lib.Ieee.{Float, nan, inf, fin, binary64, of_bits}
use Rattle.std.specs.Float.{float_is_finite, float_with_sign}
use Rattle.scalar.specs.Num.{infinity}
use Rattle.scalar.specs.Number.{abs, is_finite}

pub finite_is : (x : Float) → float_is_finite x ≡ is_finite x
unfolding float_is_finite
finite_is nan = refl
finite_is (inf s) = refl
finite_is (fin s m e) = refl

pub abs_is : (x : Float) → float_with_sign false x ≡ abs x
unfolding float_with_sign
abs_is nan = refl
abs_is (inf s) = refl
abs_is (fin s m e) = refl

pub infinity_is : of_bits binary64 0x7ff0_0000_0000_0000 ≡ infinity
unfolding of_bits
infinity_is = refl
