-- `lt` orders the numbers, infinities among them: it goes one way, and what is not below goes through. Assumes nothing.
use Rattle.std.proofs.Common.{◌≡◌, ℕ, zero, suc, ◌+◌, ◌*◌, ◌<◌, ◌≤◌, Bool, true, false, not, T, eqb, refl, subst, true≢false, zero-le, le_trans, le_of_eq, mul-le-mul_right, zero-mul, mul_right_comm, le_of_mul-le-mul_right, arith, ltb-false, ltb-true, le-ltb}
use mathlib.Core.Bool.{false≢true}
use lib.Dec.{eqb_refl}
use lib.Ieee.{Float, nan, inf, fin, up, down, below, lt, eq, is_nan}
use lib.Ieee.Fits.{down_pos}

-- by the value of a test
pub by_test : {P : Type 0} (t : Bool) → (t ≡ true → P) → (t ≡ false → P) → P
by_test true f g = f refl
by_test false f g = g refl

-- ---- fractions
-- a / da ≤ b / db ≤ c / dc
frac_through : (a da b db c dc : ℕ) → 0 < db → a * db ≤ b * da → b * dc ≤ c * db → a * dc ≤ c * da
frac_through a da b db c dc D h g =
    le_of_mul-le-mul_right
    (le_trans (le_of_eq (mul_right_comm a dc db))
    (le_trans (mul-le-mul_right dc h)
    (le_trans (le_of_eq (mul_right_comm b da dc))
    (le_trans (mul-le-mul_right da g) (le_of_eq (mul_right_comm c db da))))))
    D

none_of : (a d : ℕ) → 0 < d → a * d ≤ 0 → a ≡ 0
none_of zero d D h = refl
none_of (suc a) (suc d) D h = absurd (omega arith)
none_of (suc a) zero D h = absurd (omega arith)

-- ---- lt is one way, and what is not below goes through
below_one_way : (s t : Bool) (a b : ℕ) → below s a t b ≡ true → below t b s a ≡ false
below_one_way false false a b h = let l = ltb-true a b h in let k : a ≤ b = omega arith in le-ltb b a k
below_one_way false true a b h = absurd (false≢true h)
below_one_way true false a b h = refl
below_one_way true true a b h = let l = ltb-true b a h in let k : b ≤ a = omega arith in le-ltb a b k

pub lt_one_way : (x y : Float) → lt x y ≡ true → lt y x ≡ false
unfolding lt
lt_one_way nan y h = absurd (false≢true h)
lt_one_way (inf s) nan h = absurd (false≢true h)
lt_one_way (inf true) (inf true) h = refl
lt_one_way (inf true) (inf false) h = refl
lt_one_way (inf false) (inf t) h = absurd (false≢true h)
lt_one_way (inf true) (fin t n d) h = refl
lt_one_way (inf false) (fin t n d) h = absurd (false≢true h)
lt_one_way (fin s m e) nan h = absurd (false≢true h)
lt_one_way (fin s m e) (inf true) h = absurd (false≢true h)
lt_one_way (fin s m e) (inf false) h = refl
lt_one_way (fin s m e) (fin t n d) h = below_one_way s t (m * up e * down d) (n * up d * down e) h

-- of the fractions a / p, b / q and c / r with the signs s, t and u: c is not below b, b is not below a
module _ (a p b q c r : ℕ) (P : 0 < p) (Q : 0 < q) (R : 0 < r) where
  below_through : (s t u : Bool) → below t (b * p) s (a * q) ≡ false → below u (c * q) t (b * r) ≡ false → below u (c * p) s (a * r) ≡ false
  below_through false false false h g =
      le-ltb _ _ (frac_through a p b q c r Q (ltb-false (b * p) (a * q) h) (ltb-false (c * q) (b * r) g))
  below_through false false true h g =
      let k = ltb-false 0 (c * q + b * r) g in
      let b0 : b ≡ 0 = none_of b r R (omega arith) in
      let c0 : c ≡ 0 = none_of c q Q (omega arith) in
      let l = ltb-false (b * p) (a * q) h in
      let a0 : a ≡ 0 = none_of a q Q (rw (b0, zero-mul) at l) in
      simp (c0, a0, zero-mul)
  below_through false true false h g =
      let k = ltb-false 0 (b * p + a * q) h in
      let a0 : a ≡ 0 = none_of a q Q (omega arith) in
      le-ltb (c * p) (a * r) (rw (a0, zero-mul) zero-le)
  below_through false true true h g =
      let k = ltb-false 0 (b * p + a * q) h in
      let a0 : a ≡ 0 = none_of a q Q (omega arith) in
      let b0 : b ≡ 0 = none_of b p P (omega arith) in
      let l = ltb-false (b * r) (c * q) g in
      let c0 : c ≡ 0 = none_of c q Q (rw (b0, zero-mul) at l) in
      simp (c0, a0, zero-mul)
  below_through true t false h g = refl
  below_through true false true h g =
      let k = ltb-false 0 (c * q + b * r) g in
      let c0 : c ≡ 0 = none_of c q Q (omega arith) in
      le-ltb (a * r) (c * p) (rw (c0, zero-mul) zero-le)
  below_through true true true h g =
      le-ltb _ _ (frac_through c r b q a p Q (ltb-false (b * r) (c * q) g) (ltb-false (a * q) (b * p) h))

pub lt_through : (x y z : Float) → is_nan x ≡ false → is_nan y ≡ false → lt y x ≡ false → lt z y ≡ false → lt z x ≡ false
unfolding lt is_nan
lt_through nan y z i j h g = absurd (true≢false i)
lt_through (inf true) y nan i j h g = refl
lt_through (inf true) y (inf true) i j h g = refl
lt_through (inf true) y (inf false) i j h g = refl
lt_through (inf true) y (fin u k c) i j h g = refl
lt_through (inf false) nan z i j h g = absurd (true≢false j)
lt_through (inf false) (inf true) z i j h g = absurd (true≢false h)
lt_through (inf false) (inf false) nan i j h g = refl
lt_through (inf false) (inf false) (inf true) i j h g = absurd (true≢false g)
lt_through (inf false) (inf false) (inf false) i j h g = refl
lt_through (inf false) (inf false) (fin u k c) i j h g = absurd (true≢false g)
lt_through (inf false) (fin t n d) z i j h g = absurd (true≢false h)
lt_through (fin s m e) nan z i j h g = absurd (true≢false j)
lt_through (fin s m e) (inf true) z i j h g = absurd (true≢false h)
lt_through (fin s m e) (inf false) nan i j h g = refl
lt_through (fin s m e) (inf false) (inf true) i j h g = absurd (true≢false g)
lt_through (fin s m e) (inf false) (inf false) i j h g = refl
lt_through (fin s m e) (inf false) (fin u k c) i j h g = absurd (true≢false g)
lt_through (fin s m e) (fin t n d) nan i j h g = refl
lt_through (fin s m e) (fin t n d) (inf true) i j h g = absurd (true≢false g)
lt_through (fin s m e) (fin t n d) (inf false) i j h g = refl
lt_through (fin s m e) (fin t n d) (fin u k c) i j h g =
    below_through (m * up e) (down e) (n * up d) (down d) (k * up c) (down c) (down_pos e) (down_pos d) (down_pos c) s t u h g

-- ---- and it holds of numbers alone
pub lt_number : (x y : Float) → lt x y ≡ true → is_nan x ≡ false
unfolding lt is_nan
lt_number nan y h = absurd (false≢true h)
lt_number (inf s) y h = refl
lt_number (fin s m e) y h = refl

pub lt_nan : (x y : Float) → is_nan x ≡ true → lt x y ≡ false
unfolding lt is_nan
lt_nan nan y h = refl
lt_nan (inf s) y h = absurd (false≢true h)
lt_nan (fin s m e) y h = absurd (false≢true h)

-- ---- a NaN is what is not equal to itself
same : (n : ℕ) → eqb n n ≡ true
same n = by_test (eqb n n) (λ t. t) (λ t. absurd (subst T t (eqb_refl n)))

pub equals_itself : (x : Float) → eq x x ≡ not (is_nan x)
unfolding eq is_nan
equals_itself nan = refl
equals_itself (inf true) = refl
equals_itself (inf false) = refl
equals_itself (fin true m e) = rw (same (m * up e * down e))
equals_itself (fin false m e) = rw (same (m * up e * down e))
