-- The sine and the cosine at some values, by computation.
use mathlib.Core.Path.{◌≡◌, refl}
use Prim.Native.Nat.{ℕ, ◌^◌}
use lib.Ieee.{Float, nan, binary64, of_bits, of_int, add, sub, mul, div, neg, rem}
use Rattle.float.specs.Num.{◌⊗◌, as_f64, nought, one, two, pi, frac_pi_2, infinity}
use Rattle.float.specs.Sine.{sin, cos}

abbrev bits : ℕ → Float
bits b = of_bits binary64 b

-- the sine of x is s, and its cosine c
abbrev At : Float → Float → Float → Type 0
At x s c = (sin x ≡ s) × (cos x ≡ c)

record Values : Type 0 where
  at_0 : At nought nought one
  at_half : At (bits 0x3fe0_0000_0000_0000) (bits 0x3fde_aee8_744b_05f0) (bits 0x3fec_1528_065b_7d50)
  at_1 : At one (bits 0x3fea_ed54_8f09_0cee) (bits 0x3fe1_4a28_0fb5_068b)
  at_minus_1 : At (neg one) (bits 0xbfea_ed54_8f09_0cee) (bits 0x3fe1_4a28_0fb5_068b)
  at_2 : At two (bits 0x3fed_18f6_ead1_b446) (bits 0xbfda_a226_5753_7205)
  at_frac_pi_2 : At frac_pi_2 one (neg nought)
  at_pi : At pi (neg nought) (neg one)
  at_minus_3_frac_pi_2 : At (neg (as_f64 3 ⊗ frac_pi_2)) one (neg nought)
  at_4 : At (as_f64 4) (bits 0xbfe8_37b9_dddc_1eb0) (bits 0xbfe4_eaa6_06db_24c0)
  at_100 : At (as_f64 100) (bits 0xbfe0_3425_b78c_4d99) (bits 0x3feb_981d_bf66_5ff2)
  at_1e22 : At (as_f64 (10 ^ 22)) (bits 0x3feb_f809_b254_97f6) (bits 0x3fdf_1895_52bf_e9ff)
  at_infinity : At infinity nan nan

values : Values
unfolding sin cos of_bits of_int add sub mul div neg rem
values = record {
  at_0 = (refl, refl);
  at_half = (refl, refl);
  at_1 = (refl, refl);
  at_minus_1 = (refl, refl);
  at_2 = (refl, refl);
  at_frac_pi_2 = (refl, refl);
  at_pi = (refl, refl);
  at_minus_3_frac_pi_2 = (refl, refl);
  at_4 = (refl, refl);
  at_100 = (refl, refl);
  at_1e22 = (refl, refl);
  at_infinity = (refl, refl);
}
