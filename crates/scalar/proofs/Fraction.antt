-- From the digits of a pattern to the remainder: a value from 4 on is a whole number of units of 2 ^ -50, and so is TAU. Assumes nothing.
use mathlib.Core.Path.{◌≡◌, refl, sym, ap, ◌∙◌}
use Prim.Native.Nat.{ℕ, zero, suc, ◌+◌, ◌-◌, ◌*◌, ◌/◌, ◌%◌, ◌^◌, ◌≤◌, ◌<◌}
use native.Mathlib.Nat.{le_trans, le_of_eq, lt_of_lt_of_le, lt_of_not-le, not-le_of_lt, mul-one, mul_assoc, mul_right_comm, add-mul, add_comm, mul-le-mul_right, mul-lt-mul_of_pos_right, le_of_mul-le-mul_right, mul-pos, eq_of_mul-eq-mul_right, mod-add-div', mod-lt, mod-eq_of_lt, add-mul-mod_self_right}
use native.Mathlib.Omega.{arith}
use mathlib.Core.Bool.{true, false, false≢true}
use lib.IntN.{ℤ, pos, negsuc}
use lib.Dec.{T, lit<, lit≤, lt→ltb}
use lib.Pow.{pow-add, pow_pos, pow_mono, shl_lt}
use lib.Ieee.{Float, nan, inf, fin, binary64, up, down, neg, lt, rem, round, mul, fits, of_bits, of_int, to_bits}
use lib.Ieee.Fits.{down_pos}
use lib.Ieee.Exact.{HasValue, round_exact}
use lib.Ieee.Scale.{round_same}
use lib.Ieee.Positive.{positive, first_pos}
use Rattle.std.proofs.Common.{ltb-false, true≢false}
use Rattle.root.specs.Steps.{field_units, units_of}
use Rattle.root.proofs.Decode.{Pattern, pattern, neg_round}
use Rattle.scalar.specs.Num.{tau}
use Rattle.scalar.specs.Digits.{tau_digits}

-- ---- a remainder, times a number
pub scale : (a b c : ℕ) → 0 < b → 0 < c → a * c % (b * c) ≡ a % b * c
scale a b c B C =
    ap (λ (x : ℕ). x % (b * c)) (ap (λ (x : ℕ). x * c) (sym (mod-add-div' a b)) ∙ add-mul (a % b) (a / b * b) c ∙ ap (λ (x : ℕ). a % b * c + x) (mul_assoc (a / b) b c))
    ∙ add-mul-mod_self_right (a % b * c) (a / b) (b * c)
    ∙ mod-eq_of_lt (mul-lt-mul_of_pos_right (mod-lt a B) C)

-- ---- the units of a pattern
large : (e t : ℕ) → 1025 ≤ e → field_units e t ≡ (t + 2 ^ 52) * 2 ^ (e - 1025) * 2 ^ 1024
large zero t h = absurd (omega arith)
large (suc e) t h =
    let k : e ≡ suc e - 1025 + 1024 = omega arith in
    ap (λ (x : ℕ). x * 2 ^ e) (add_comm (2 ^ 52) t)
    ∙ ap (λ (x : ℕ). (t + 2 ^ 52) * x) (ap (λ (x : ℕ). 2 ^ x) k ∙ pow-add 2 (suc e - 1025) 1024)
    ∙ sym (mul_assoc (t + 2 ^ 52) (2 ^ (suc e - 1025)) (2 ^ 1024))

pub units_rem : (b r : ℕ) → 1025 ≤ b / 2 ^ 52 → r ≡ (b % 2 ^ 52 + 2 ^ 52) * 2 ^ (b / 2 ^ 52 - 1025) % tau_digits → r * 2 ^ 1024 ≡ units_of b % (tau_digits * 2 ^ 1024)
units_rem b r h e =
    let n = (b % 2 ^ 52 + 2 ^ 52) * 2 ^ (b / 2 ^ 52 - 1025) in
    ap (λ (x : ℕ). x * 2 ^ 1024) e
    ∙ sym (scale n tau_digits (2 ^ 1024) (lit< tt) (pow_pos 1024))
    ∙ ap (λ (x : ℕ). x % (tau_digits * 2 ^ 1024)) (sym (large (b / 2 ^ 52) (b % 2 ^ 52) h))

small : (e t : ℕ) → e < 1025 → t < 2 ^ 52 → field_units e t < 2 ^ 1076
small zero t h k = lt_of_lt_of_le k (lit≤ tt)
small (suc e) t h k = lt_of_lt_of_le (shl_lt 53 e m) (pow_mono l)
  where
    m : 2 ^ 52 + t < 2 ^ 53
    m = omega arith

    l : 53 + e ≤ 1076
    l = omega arith

-- ---- the fraction that `rem` rounds: a / d is the value, u its units
module _ (a d u n G H P Q W : ℕ) (D : 0 < d) (q : 0 < Q) (gq : G * Q ≡ W) (ph : P * H ≡ W) (v : a * W ≡ u * d) where
  value_units : a * G * Q ≡ u * d
  value_units = mul_assoc a G Q ∙ ap (λ (x : ℕ). a * x) gq ∙ v

  pub fraction : (r : ℕ) → 0 < n → r * P ≡ u % (n * Q) → a * G % (n * d) * H ≡ r * (d * G)
  fraction r N e =
      let left : a * G % (n * d) * Q ≡ r * P * d =
      sym (scale (a * G) (n * d) Q (mul-pos N D) q)
      ∙ ap (λ (x : ℕ). x % (n * d * Q)) value_units
      ∙ ap (λ (x : ℕ). u * d % x) (mul_right_comm n d Q)
      ∙ scale u (n * Q) d (mul-pos N q) D
      ∙ ap (λ (x : ℕ). x * d) (sym e) in
      eq_of_mul-eq-mul_right Q q (a * G % (n * d) * H) (r * (d * G))
      (mul_right_comm (a * G % (n * d)) H Q
      ∙ ap (λ (x : ℕ). x * H) (left ∙ mul_right_comm r P d)
      ∙ mul_assoc (r * d) P H
      ∙ ap (λ (x : ℕ). r * d * x) (ph ∙ sym gq)
      ∙ sym (mul_assoc (r * d) G Q)
      ∙ ap (λ (x : ℕ). x * Q) (mul_assoc r d G))

  pub at_least : n * d ≤ a * G → n * Q ≤ u
  at_least h = le_of_mul-le-mul_right (le_trans (le_of_eq (mul_right_comm n Q d)) (le_trans (mul-le-mul_right Q h) (le_of_eq value_units))) D

-- ---- r units of 2 ^ -50
times_unit : (x : Float) (r : ℕ) → HasValue x false r 1 → mul binary64 x (fin false 1 (negsuc 49)) ≡ round binary64 false r (2 ^ 50)
unfolding mul
times_unit nan r v = absurd v
times_unit (inf s) r v = absurd v
times_unit (fin true m e) r v = absurd (let e = v.0 in cc)
times_unit (fin false m e) r v =
    round_same binary64 false (m * up e * 1) (down e * 2 ^ 50) r (2 ^ 50) (mul-pos (down_pos e) (pow_pos 50)) (pow_pos 50) (ap (λ (x : ℕ). x * 2 ^ 50) v.1 ∙ mul_assoc r (down e) (2 ^ 50))

pub from_units_is : (r : ℕ) → r < 2 ^ 53 → mul binary64 (of_int binary64 (pos r)) (of_bits binary64 4382002437431492608) ≡ round binary64 false r (2 ^ 50)
unfolding of_int of_bits
from_units_is r h =
    times_unit (round binary64 false r 1) r
    (round_exact binary64 false r 1 r 1074 (lit< tt) h (lt_of_lt_of_le (shl_lt 53 1074 h) (pow_mono {i = 53 + 1074} {j = 1074 + 1024} (lit≤ tt))) (sym (mul-one (r * 2 ^ 1074))))

-- ---- a finite value from TAU on
some : (m : ℕ) (e : ℤ) → 884279719003555 * down e ≤ m * up e * 2 ^ 47 → T (positive (fin false m e))
some m e h = lt→ltb 0 m (first_pos m (up e) (first_pos (m * up e) (2 ^ 47) (lt_of_lt_of_le (mul-pos (lit< tt) (down_pos e)) h)))

of_value : (m : ℕ) (e : ℤ) → T (fits binary64 (fin false m e)) → 884279719003555 * down e ≤ m * up e * 2 ^ 47 → Pattern (fin false m e) (to_bits binary64 (fin false m e))
of_value m e t h = pattern (fin false m e) t (some m e h) tt

-- a value below zero is below TAU
no_sign : (m : ℕ) (e : ℤ) → lt (fin true m e) tau ≡ false → ⊥
unfolding lt of_bits
no_sign m e p =
    let h = ltb-false 0 (m * up e * 2 ^ 47 + 884279719003555 * down e) p in
    let k : 0 < 884279719003555 * down e = mul-pos (lit< tt) (down_pos e) in
    omega arith

from_tau : (x : Float) → lt x tau ≡ false → lt x (inf false) ≡ true → (P : Float → Type 0) → ((m : ℕ) (e : ℤ) → 884279719003555 * down e ≤ m * up e * 2 ^ 47 → P (fin false m e)) → P x
unfolding lt of_bits
from_tau nan p q P f = absurd (false≢true q)
from_tau (inf true) p q P f = absurd (true≢false p)
from_tau (inf false) p q P f = absurd (false≢true q)
from_tau (fin true m e) p q P f = absurd (no_sign m e p)
from_tau (fin false m e) p q P f = f m e (ltb-false (m * up e * 2 ^ 47) (884279719003555 * down e) p)

high : (b : ℕ) → 884279719003555 * 2 ^ 1027 ≤ units_of b → 1025 ≤ b / 2 ^ 52
high b h = lt_of_not-le (λ (g : b / 2 ^ 52 ≤ 1024). not-le_of_lt (small (b / 2 ^ 52) (b % 2 ^ 52) (next (b / 2 ^ 52) 1024 g) (mod-lt b (lit< tt))) (le_trans (lit≤ tt) h))
  where
    next : (e k : ℕ) → e ≤ k → e < suc k
    next e k h = omega arith

wide : (b : ℕ) → 1025 ≤ b / 2 ^ 52 → 1025 * 2 ^ 52 ≤ b
wide b h = omega arith

pub bits_in : (x : Float) → T (fits binary64 x) → lt x tau ≡ false → lt x (inf false) ≡ true → (1025 * 2 ^ 52 ≤ to_bits binary64 x) × (to_bits binary64 x < 2047 * 2 ^ 52)
bits_in x t p q = from_tau x p q (λ (y : Float). T (fits binary64 y) → (1025 * 2 ^ 52 ≤ to_bits binary64 y) × (to_bits binary64 y < 2047 * 2 ^ 52)) go t
  where
    go : (m : ℕ) (e : ℤ) → 884279719003555 * down e ≤ m * up e * 2 ^ 47 → T (fits binary64 (fin false m e)) → (1025 * 2 ^ 52 ≤ to_bits binary64 (fin false m e)) × (to_bits binary64 (fin false m e) < 2047 * 2 ^ 52)
    go m e h t =
        let b = to_bits binary64 (fin false m e) in
        let w = of_value m e t h in
        (wide b (high b (at_least (m * up e) (down e) (units_of b) 884279719003555 (2 ^ 47) (2 ^ 50) (2 ^ 1024) (2 ^ 1027) (2 ^ 1074) (down_pos e) (pow_pos 1027) refl refl w.value.1 h)), w.under)

rem_fin : (m : ℕ) (e : ℤ) (r : ℕ) → 884279719003555 * down e ≤ m * up e * 2 ^ 47 → T (fits binary64 (fin false m e)) → r * 2 ^ 1024 ≡ units_of (to_bits binary64 (fin false m e)) % (tau_digits * 2 ^ 1024)
    → round binary64 false r (2 ^ 50) ≡ rem binary64 (fin false m e) tau
unfolding rem of_bits
rem_fin m e r h t is =
    let b = to_bits binary64 (fin false m e) in
    let w = of_value m e t h in
    round_same binary64 false r (2 ^ 50) (m * up e * 2 ^ 47 % (884279719003555 * down e)) (down e * 2 ^ 47) (pow_pos 50) (mul-pos (down_pos e) (pow_pos 47))
    (sym (fraction (m * up e) (down e) (units_of b) 884279719003555 (2 ^ 47) (2 ^ 50) (2 ^ 1024) (2 ^ 1027) (2 ^ 1074) (down_pos e) (pow_pos 1027) refl refl w.value.1 r (lit< tt) is))

pub rem_is : (x : Float) (r : ℕ) → T (fits binary64 x) → lt x tau ≡ false → lt x (inf false) ≡ true → r * 2 ^ 1024 ≡ units_of (to_bits binary64 x) % (tau_digits * 2 ^ 1024)
    → round binary64 false r (2 ^ 50) ≡ rem binary64 x tau
rem_is x r t p q =
    from_tau x p q (λ (y : Float). T (fits binary64 y) → r * 2 ^ 1024 ≡ units_of (to_bits binary64 y) % (tau_digits * 2 ^ 1024) → round binary64 false r (2 ^ 50) ≡ rem binary64 y tau)
    (λ m e h. rem_fin m e r h) t

-- ---- the other values, by the tests of `rem_tau`
pub negated : (x : Float) → lt x tau ≡ true → lt (neg tau) x ≡ false → lt (inf true) x ≡ true → (lt (neg x) tau ≡ false) × (lt (neg x) (inf false) ≡ true)
unfolding lt neg of_bits
negated nan p q r = absurd (false≢true p)
negated (inf true) p q r = absurd (false≢true r)
negated (inf false) p q r = absurd (false≢true p)
negated (fin true m e) p q r = (q, refl)
negated (fin false m e) p q r =
    let h = ltb-false 0 (884279719003555 * down e + m * up e * 2 ^ 47) q in
    let k : 0 < 884279719003555 * down e = mul-pos (lit< tt) (down_pos e) in
    absurd (omega arith)

pub neg_rem : (x : Float) → lt x tau ≡ true → lt (neg tau) x ≡ false → lt (inf true) x ≡ true → neg (rem binary64 (neg x) tau) ≡ rem binary64 x tau
unfolding lt neg of_bits rem
neg_rem nan p q r = absurd (false≢true p)
neg_rem (inf true) p q r = absurd (false≢true r)
neg_rem (inf false) p q r = absurd (false≢true p)
neg_rem (fin true m e) p q r = neg_round binary64 (m * up e * 2 ^ 47 % (884279719003555 * down e)) (down e * 2 ^ 47)
neg_rem (fin false m e) p q r =
    let h = ltb-false 0 (884279719003555 * down e + m * up e * 2 ^ 47) q in
    let k : 0 < 884279719003555 * down e = mul-pos (lit< tt) (down_pos e) in
    absurd (omega arith)

pub none_below : (x : Float) → lt x tau ≡ true → lt (inf true) x ≡ false → nan ≡ rem binary64 x tau
unfolding lt of_bits rem
none_below nan p r = refl
none_below (inf s) p r = refl
none_below (fin s m e) p r = absurd (true≢false r)

pub none_above : (x : Float) → lt x tau ≡ false → lt x (inf false) ≡ false → nan ≡ rem binary64 x tau
unfolding lt of_bits rem
none_above nan p r = refl
none_above (inf s) p r = refl
none_above (fin s m e) p r = absurd (true≢false r)
