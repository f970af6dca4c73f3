-- The constants that stand by their bits are what their names say.
use Rattle.std.proofs.Common.{◌≡◌, refl}
use lib.Ieee.{mul, div, of_bits, of_int}
use Rattle.scalar.specs.Num.{◌⊗◌, ◌⊘◌, as_f64, nought, one, two, pi, tau, frac_pi_2, frac_pi_4}

record Values : Type 0 where
  nought_is_0 : nought ≡ as_f64 0
  one_is_1 : one ≡ as_f64 1
  two_is_2 : two ≡ as_f64 2
  tau_is_2_pi : tau ≡ two ⊗ pi
  frac_pi_2_is_half : frac_pi_2 ≡ pi ⊘ two
  frac_pi_4_is_quarter : frac_pi_4 ≡ pi ⊘ as_f64 4

values : Values
unfolding mul div of_bits of_int
values = record {
  nought_is_0 = refl;
  one_is_1 = refl;
  two_is_2 = refl;
  tau_is_2_pi = refl;
  frac_pi_2_is_half = refl;
  frac_pi_4_is_quarter = refl;
}
