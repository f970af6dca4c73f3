-- `sqrt` and `cbrt` at some values, by computation. The right-hand sides are the roots that an exact computation outside antt gives.
use mathlib.Core.Path.{◌≡◌, refl}
use Prim.Native.Nat.{ℕ}
use lib.IntN.{pos}
use lib.Ieee.{Float, binary64, neg, of_bits, of_int}
use Rattle.root.specs.Root.{sqrt, cbrt}

abbrev num : ℕ → Float
num k = of_int binary64 (pos k)

abbrev bits : ℕ → Float
bits b = of_bits binary64 b

abbrev tenth : Float
tenth = bits 0x3fb9_9999_9999_999a

-- f64::MAX, f64::MIN_POSITIVE, and the smallest `f64` above 0
abbrev largest : Float
largest = bits 0x7fef_ffff_ffff_ffff

abbrev smallest_normal : Float
smallest_normal = bits 0x0010_0000_0000_0000

abbrev smallest : Float
smallest = bits 1

record Values : Type 0 where
  sqrt_2 : sqrt (num 2) ≡ bits 0x3ff6_a09e_667f_3bcd
  sqrt_3 : sqrt (num 3) ≡ bits 0x3ffb_b67a_e858_4caa
  sqrt_4 : sqrt (num 4) ≡ num 2
  sqrt_tenth : sqrt tenth ≡ bits 0x3fd4_3d13_6248_490f
  sqrt_quarter : sqrt (bits 0x3fd0_0000_0000_0000) ≡ bits 0x3fe0_0000_0000_0000
  sqrt_largest : sqrt largest ≡ bits 0x5fef_ffff_ffff_ffff
  sqrt_smallest_normal : sqrt smallest_normal ≡ bits 0x2000_0000_0000_0000
  sqrt_smallest : sqrt smallest ≡ bits 0x1e60_0000_0000_0000
  cbrt_2 : cbrt (num 2) ≡ bits 0x3ff4_28a2_f98d_728b
  cbrt_minus_3 : cbrt (neg (num 3)) ≡ bits 0xbff7_1374_4912_3ef6
  cbrt_minus_27 : cbrt (neg (num 27)) ≡ neg (num 3)
  cbrt_tenth : cbrt tenth ≡ bits 0x3fdd_b4c7_760b_cff3
  cbrt_eighth : cbrt (bits 0x3fc0_0000_0000_0000) ≡ bits 0x3fe0_0000_0000_0000
  cbrt_largest : cbrt largest ≡ bits 0x5544_28a2_f98d_728b
  cbrt_smallest : cbrt smallest ≡ bits 0x2990_0000_0000_0000

values : Values
unfolding sqrt cbrt neg of_bits of_int
values = record {
  sqrt_2 = refl;
  sqrt_3 = refl;
  sqrt_4 = refl;
  sqrt_tenth = refl;
  sqrt_quarter = refl;
  sqrt_largest = refl;
  sqrt_smallest_normal = refl;
  sqrt_smallest = refl;
  cbrt_2 = refl;
  cbrt_minus_3 = refl;
  cbrt_minus_27 = refl;
  cbrt_tenth = refl;
  cbrt_eighth = refl;
  cbrt_largest = refl;
  cbrt_smallest = refl;
}
