-- The whole factors of the formulas are the code's literals.
use mathlib.Core.Path.{◌≡◌, refl}
use lib.Ieee.{binary64, of_int, of_bits}
use Rattle.float.specs.Num.{as_f64}

pub two : as_f64 2 ≡ of_bits binary64 0x4000_0000_0000_0000
unfolding of_int of_bits
two = refl

pub three : as_f64 3 ≡ of_bits binary64 0x4008_0000_0000_0000
unfolding of_int of_bits
three = refl

pub four : as_f64 4 ≡ of_bits binary64 0x4010_0000_0000_0000
unfolding of_int of_bits
four = refl

pub eight : as_f64 8 ≡ of_bits binary64 0x4020_0000_0000_0000
unfolding of_int of_bits
eight = refl

pub nine : as_f64 9 ≡ of_bits binary64 0x4022_0000_0000_0000
unfolding of_int of_bits
nine = refl

pub twelve : as_f64 12 ≡ of_bits binary64 0x4028_0000_0000_0000
unfolding of_int of_bits
twelve = refl

pub twenty_seven : as_f64 27 ≡ of_bits binary64 0x403b_0000_0000_0000
unfolding of_int of_bits
twenty_seven = refl

pub seventy_two : as_f64 72 ≡ of_bits binary64 0x4052_0000_0000_0000
unfolding of_int of_bits
seventy_two = refl
