-- Fractions in steps of 1 / L: how far the quotients X * L / p and Y * L / q, rounded down, lie apart, where the fractions differ by less or by more than R steps. Nothing here is about floats.
use Prim.Native.Nat.{ℕ, ◌+◌, ◌-◌, ◌*◌, ◌/◌, ◌^◌, ◌≤◌, ◌<◌}
use native.Mathlib.Nat.{le_trans, le_of_eq, le_of_lt, lt_of_lt_of_le, lt_of_le_of_lt, lt_of_not-le, mul_comm, mul_assoc, mul_left_comm, mul_right_comm, add-mul, mul-le-mul_right, mul-lt-mul_of_pos_right, lt_of_mul-lt-mul_right, div-add-mod', mod-lt}
use native.Mathlib.Omega.{arith}
use mathlib.Core.Path.{◌≡◌, sym, ap, ◌∙◌}

-- n / p is rounded down
pub quotient_low : (n p : ℕ) → n / p * p ≤ n
quotient_low n p = let e = div-add-mod' n p in omega arith

pub quotient_high : (n p : ℕ) → 0 < p → n < (n / p + 1) * p
quotient_high n p h = let e = div-add-mod' n p in let m = mod-lt n h in rw (add-mul (n / p) 1 p) (omega arith)

module _ (X p Y q R k : ℕ) (P : 0 < p) (Q : 0 < q) where
  abbrev L : ℕ
  L = R * 2 ^ k

  -- Y / q is below X / p by nothing, or above it by less than 1 / 2 ^ k
  pub up_to : 0 < R → (Y * p - X * q) * 2 ^ k < p * q → Y * L / q ≤ X * L / p + R
  up_to r h =
      let N = X * L / p in
      let M = Y * L / q in
      let D = Y * p - X * q in
      let c = p * q in
      let a : M * c ≤ Y * p * L = le_trans (le_of_eq (sym (mul_assoc M p q) ∙ mul_right_comm M p q)) (le_trans (mul-le-mul_right p (quotient_low (Y * L) q)) (le_of_eq (mul_right_comm Y L p))) in
      let b : X * q * L < (N + 1) * c = lt_of_le_of_lt (le_of_eq (mul_right_comm X q L)) (lt_of_lt_of_le (mul-lt-mul_of_pos_right (quotient_high (X * L) p P) Q) (le_of_eq (mul_assoc (N + 1) p q))) in
      let d : Y * p ≤ X * q + D = omega arith in
      let e : Y * p * L ≤ X * q * L + D * L = le_trans (mul-le-mul_right L d) (le_of_eq (add-mul (X * q) D L)) in
      let f : D * L < R * c = lt_of_le_of_lt (le_of_eq (mul_left_comm D R (2 ^ k) ∙ mul_comm R (D * 2 ^ k))) (lt_of_lt_of_le (mul-lt-mul_of_pos_right h r) (le_of_eq (mul_comm c R))) in
      let g : M * c < (N + 1 + R) * c = rw (add-mul (N + 1) R c) (omega arith) in
      let i : M < N + 1 + R = lt_of_mul-lt-mul_right c g in
      omega arith

  -- Y / q is above X / p by more than 1 / 2 ^ k
  pub away : p * q < (Y * p - X * q) * 2 ^ k → X * L / p + R ≤ Y * L / q
  away h =
      let N = X * L / p in
      let M = Y * L / q in
      let D = Y * p - X * q in
      let c = p * q in
      let a : N * c ≤ X * q * L = le_trans (le_of_eq (sym (mul_assoc N p q))) (le_trans (mul-le-mul_right q (quotient_low (X * L) p)) (le_of_eq (mul_right_comm X L q))) in
      let b : Y * p * L < (M + 1) * c = lt_of_le_of_lt (le_of_eq (mul_right_comm Y p L)) (lt_of_lt_of_le (mul-lt-mul_of_pos_right (quotient_high (Y * L) q Q) P) (le_of_eq (mul_assoc (M + 1) q p ∙ ap (λ (x : ℕ). (M + 1) * x) (mul_comm q p)))) in
      let some : 0 < D * 2 ^ k = omega arith in
      let d : X * q + D ≤ Y * p = omega (arith, below (Y * p) (X * q) (2 ^ k) some) in
      let e : X * q * L + D * L ≤ Y * p * L = le_trans (le_of_eq (sym (add-mul (X * q) D L))) (mul-le-mul_right L d) in
      let f : R * c ≤ D * L = le_trans (le_of_eq (mul_comm R c)) (le_trans (mul-le-mul_right R (le_of_lt h)) (le_of_eq (mul_comm (D * 2 ^ k) R ∙ mul_left_comm R D (2 ^ k)))) in
      let g : (N + R) * c < (M + 1) * c = rw (add-mul N R c) (omega arith) in
      let i : N + R < M + 1 = lt_of_mul-lt-mul_right c g in
      omega arith
    where
      -- a difference that is not zero
      below : (u v w : ℕ) → 0 < (u - v) * w → v < u
      below u v w t = lt_of_not-le (λ l. let z : u - v ≡ 0 = omega arith in let y : 0 < 0 * w = rw z at t in absurd (omega arith))
