-- `sqrt` and `cbrt` by the cases that the code tells apart: its comparisons are with the literal 0.0 and with `f64::INFINITY`, by their bits. Assumes nothing.
use mathlib.Core.Path.{◌≡◌, refl, sym, ap, ◌∙◌, subst}
use Prim.Native.Nat.{ℕ, ◌*◌, ◌^◌, ◌<◌}
use mathlib.Core.Bool.{Bool, true, false, not}
use lib.IntN.{ℤ}
use lib.Dec.{T}
use lib.Ieee.{Float, nan, inf, fin, binary64, neg, lt, eq, fits, is_nan, nan_bits, of_bits, to_bits}
use lib.Ieee.Bits.{of_bits-to_bits}
use lib.Ieee.Positive.{positive}
use Rattle.std.proofs.lemmas.Float.{T_from_true, T_from_false}
use Rattle.root.specs.Root.{square, cube, rounded, sqrt, cbrt}
use Rattle.root.specs.Steps.{units_of}
use Rattle.root.proofs.Decode.{pattern, scaled_of, is_positive, is_negative, is_finite, is_number, is_infinite, is_infinite_below, is_zero, is_below, is_nothing, rounded_fits, bits_number, positive_number, sqrt_open, cbrt_open, cbrt_odd}

abbrev zero_bits : Float
zero_bits = of_bits binary64 0

abbrev infinity_bits : Float
infinity_bits = of_bits binary64 0x7ff0_0000_0000_0000

abbrev nan_by_bits : Float
nan_by_bits = of_bits binary64 0x7ff8_0000_0000_0000

-- ---- above zero and below the infinity
pub above : (x : Float) → lt zero_bits x ≡ true → lt x infinity_bits ≡ true → T (positive x)
unfolding of_bits
above x p q = is_positive x (T_from_true _ p) (T_from_true _ q)

pub number_above : (x : Float) → lt zero_bits x ≡ true → T (not (is_nan x))
unfolding of_bits
number_above x p = is_number x (T_from_true _ p)

pub below : (x : Float) → lt x zero_bits ≡ true → lt (neg x) infinity_bits ≡ true → T (positive (neg x))
unfolding of_bits
below x p q = is_negative x (T_from_true _ p) (T_from_true _ q)

-- its bits are those of a finite number
pub some_bits : (x : Float) → fits binary64 x ≡ true → T (positive x) → 0 < to_bits binary64 x
some_bits x h p = (pattern x (T_from_true _ h) p (is_finite x p)).some

pub finite_bits : (x : Float) → fits binary64 x ≡ true → T (positive x) → to_bits binary64 x < 2047 * 2 ^ 52
finite_bits x h p = (pattern x (T_from_true _ h) p (is_finite x p)).under

-- ---- the root by its bits
pub sqrt_number : (n b : ℕ) → b ≡ to_bits binary64 (rounded square false n) → T (not (nan_bits binary64 b))
sqrt_number n b e = bits_number square n b e

pub cbrt_number : (n b : ℕ) → b ≡ to_bits binary64 (rounded cube false n) → T (not (nan_bits binary64 b))
cbrt_number n b e = bits_number cube n b e

pub sqrt_by_bits : (x : Float) (b : ℕ) → fits binary64 x ≡ true → T (positive x) → b ≡ to_bits binary64 (rounded square false (units_of (to_bits binary64 x) * 2 ^ 1074)) → of_bits binary64 b ≡ sqrt x
sqrt_by_bits x b h p e =
    let n = units_of (to_bits binary64 x) * 2 ^ 1074 in
    ap (of_bits binary64) e
    ∙ of_bits-to_bits binary64 (rounded square false n) (rounded_fits square n)
    ∙ sym (sqrt_open x p ∙ ap (rounded square false) (scaled_of 1074 x false (units_of (to_bits binary64 x)) (pattern x (T_from_true _ h) p (is_finite x p)).value))

pub cbrt_by_bits : (x : Float) (b : ℕ) → fits binary64 x ≡ true → T (positive x) → b ≡ to_bits binary64 (rounded cube false (units_of (to_bits binary64 x) * 2 ^ 2148)) → of_bits binary64 b ≡ cbrt x
cbrt_by_bits x b h p e =
    let n = units_of (to_bits binary64 x) * 2 ^ 2148 in
    ap (of_bits binary64) e
    ∙ of_bits-to_bits binary64 (rounded cube false n) (rounded_fits cube n)
    ∙ sym (cbrt_open x p ∙ ap (rounded cube false) (scaled_of 2148 x false (units_of (to_bits binary64 x)) (pattern x (T_from_true _ h) p (is_finite x p)).value))

-- below zero it is the negation of the root of the negation
pub cbrt_negated : (x r : Float) → T (positive (neg x)) → r ≡ cbrt (neg x) → neg r ≡ cbrt x
cbrt_negated x r p e = ap neg e ∙ cbrt_odd x p

-- ---- what is its own root, and what has none
pub sqrt_infinity : (x : Float) → lt zero_bits x ≡ true → lt x infinity_bits ≡ false → x ≡ sqrt x
unfolding of_bits sqrt
sqrt_infinity x p q = subst (λ (y : Float). y ≡ sqrt y) (sym (is_infinite x (T_from_true _ p) (T_from_false _ q))) refl

pub sqrt_zero : (x : Float) → eq x zero_bits ≡ true → x ≡ sqrt x
unfolding of_bits sqrt
sqrt_zero x p = is_zero x (T_from_true _ p) (λ (y : Float). y ≡ sqrt y) (λ s e. refl)

pub sqrt_nan : (x : Float) → lt zero_bits x ≡ false → eq x zero_bits ≡ false → nan_by_bits ≡ sqrt x
unfolding of_bits sqrt
sqrt_nan x p q = is_below x (T_from_false _ p) (T_from_false _ q) (λ (y : Float). nan ≡ sqrt y) refl refl (λ m e. refl)

pub cbrt_infinity : (x : Float) → lt zero_bits x ≡ true → lt x infinity_bits ≡ false → x ≡ cbrt x
unfolding of_bits cbrt
cbrt_infinity x p q = subst (λ (y : Float). y ≡ cbrt y) (sym (is_infinite x (T_from_true _ p) (T_from_false _ q))) refl

pub cbrt_infinity_below : (x : Float) → lt x zero_bits ≡ true → lt (neg x) infinity_bits ≡ false → x ≡ cbrt x
unfolding of_bits cbrt
cbrt_infinity_below x p q = subst (λ (y : Float). y ≡ cbrt y) (sym (is_infinite_below x (T_from_true _ p) (T_from_false _ q))) refl

pub cbrt_nothing : (x : Float) → lt zero_bits x ≡ false → lt x zero_bits ≡ false → x ≡ cbrt x
unfolding of_bits cbrt
cbrt_nothing x p q = is_nothing x (T_from_false _ p) (T_from_false _ q) (λ (y : Float). y ≡ cbrt y) refl (λ s e. refl)
