-- The sine and the cosine of every `f64` of size at most 4 are within 2 ^ -45 of the exact sums of degree 41 and 40. Assumes nothing.
use mathlib.Core.Path.{◌≡◌, refl, sym, ap, ◌∙◌, subst}
use Prim.Native.Nat.{ℕ, zero, suc, ◌+◌, ◌-◌, ◌*◌, ◌^◌, ◌≤◌, ◌<◌, zero-le}
use native.Mathlib.Nat.{le_trans, le_of_eq, mul_right_comm, mul-le-mul_right, le_of_mul-le-mul_right}
use native.Mathlib.Omega.{arith}
use mathlib.Core.Bool.{Bool, true, false, not, cond}
use lib.IntN.{ℤ, pos, negsuc, neg_ℤ}
use lib.Dec.{T, lit≤, lit<}
use lib.Ieee.{Float, nan, inf, fin, binary64, up, down, sub, mul, neg, rem, of_int, of_bits, fits}
use lib.Ieee.Fits.{down_pos}
use Rattle.float.specs.Num.{tau, frac_pi_2, ◌⊕◌, ◌⊘◌}
use Rattle.float.specs.Sine.{nearest_whole, quarter, reduce, pick, sin_sum, cos_sum, sin_at, cos_at, sin, cos}
use Rattle.float.specs.declared.sine.Reduced.{Reduced}
use Rattle.sine_accuracy.specs.Accuracy.{terms}
use Rattle.scalar.proofs.Own.{rem_small}
use Rattle.float.proofs.Reduction.{reduced_at, sin_open, cos_open}
use Rattle.sine_accuracy.proofs.Ops.{Val, plus, minus}
use Rattle.sine_accuracy.proofs.Poly.{ev, minus_poly}
use Rattle.sine_accuracy.proofs.Series.{sin_poly, cos_poly}
use Rattle.sine_accuracy.proofs.Sums.{as_diff, sin_near, cos_near}
use Rattle.sine_accuracy.proofs.Shift.{InBound, finish, neg_near, sin_up_0, sin_up_1, sin_up_2, sin_up_3, sin_down_1, sin_down_2, sin_down_3, cos_up_0, cos_up_1, cos_up_2, cos_up_3, cos_down_1, cos_down_2, cos_down_3}
use Rattle.sine_accuracy.proofs.Turn.{Held53, units_form, coarse, nearest_is, quotient, few_turns, above, below, Reached, reached, held_between}

-- FRAC_PI_2 in units
abbrev N : ℕ
N = 884279719003555 * 2 ^ 1025

-- both functions
pub record BothInBound (x y : Float) (s : Bool) (X : ℕ) : Type 0 where
  pub sine : InBound x (ev (sin_poly terms) (as_diff s X))
  pub cosine : InBound y (ev (cos_poly terms) (as_diff s X))

-- ---- by the number of quarter turns
case_up_0 : (x : Float) (X : ℕ) → Reached (x ⊕ fin true 0 (pos 0)) false X (0 * N) → BothInBound (sin_at (record { r = x ⊕ fin true 0 (pos 0); k = 0 })) (cos_at (record { r = x ⊕ fin true 0 (pos 0); k = 0 })) false X
unfolding sin_at cos_at pick
case_up_0 x X k = record {
  sine = finish (sin_sum (x ⊕ fin true 0 (pos 0))) false k.sign X k.units (as_diff false (0 * N)) (sin_poly terms) (sin_poly 9) k.small k.same sin_up_0 (sin_near (x ⊕ fin true 0 (pos 0)) k.sign k.units k.value k.small);
  cosine = finish (cos_sum (x ⊕ fin true 0 (pos 0))) false k.sign X k.units (as_diff false (0 * N)) (cos_poly terms) (cos_poly 9) k.small k.same cos_up_0 (cos_near (x ⊕ fin true 0 (pos 0)) k.sign k.units k.value k.small);
}

case_up_1 : (x : Float) (X : ℕ) → Reached (x ⊕ fin true 884279719003555 (negsuc 48)) false X (1 * N) → BothInBound (sin_at (record { r = x ⊕ fin true 884279719003555 (negsuc 48); k = 1 })) (cos_at (record { r = x ⊕ fin true 884279719003555 (negsuc 48); k = 1 })) false X
unfolding sin_at cos_at pick
case_up_1 x X k = record {
  sine = finish (cos_sum (x ⊕ fin true 884279719003555 (negsuc 48))) false k.sign X k.units (as_diff false (1 * N)) (sin_poly terms) (cos_poly 9) k.small k.same sin_up_1 (cos_near (x ⊕ fin true 884279719003555 (negsuc 48)) k.sign k.units k.value k.small);
  cosine = finish (neg (sin_sum (x ⊕ fin true 884279719003555 (negsuc 48)))) false k.sign X k.units (as_diff false (1 * N)) (cos_poly terms) (minus_poly (sin_poly 9)) k.small k.same cos_up_1 (neg_near (sin_sum (x ⊕ fin true 884279719003555 (negsuc 48))) (sin_poly 9) (as_diff k.sign k.units) (sin_near (x ⊕ fin true 884279719003555 (negsuc 48)) k.sign k.units k.value k.small));
}

case_up_2 : (x : Float) (X : ℕ) → Reached (x ⊕ fin true 884279719003555 (negsuc 47)) false X (2 * N) → BothInBound (sin_at (record { r = x ⊕ fin true 884279719003555 (negsuc 47); k = 2 })) (cos_at (record { r = x ⊕ fin true 884279719003555 (negsuc 47); k = 2 })) false X
unfolding sin_at cos_at pick
case_up_2 x X k = record {
  sine = finish (neg (sin_sum (x ⊕ fin true 884279719003555 (negsuc 47)))) false k.sign X k.units (as_diff false (2 * N)) (sin_poly terms) (minus_poly (sin_poly 9)) k.small k.same sin_up_2 (neg_near (sin_sum (x ⊕ fin true 884279719003555 (negsuc 47))) (sin_poly 9) (as_diff k.sign k.units) (sin_near (x ⊕ fin true 884279719003555 (negsuc 47)) k.sign k.units k.value k.small));
  cosine = finish (neg (cos_sum (x ⊕ fin true 884279719003555 (negsuc 47)))) false k.sign X k.units (as_diff false (2 * N)) (cos_poly terms) (minus_poly (cos_poly 9)) k.small k.same cos_up_2 (neg_near (cos_sum (x ⊕ fin true 884279719003555 (negsuc 47))) (cos_poly 9) (as_diff k.sign k.units) (cos_near (x ⊕ fin true 884279719003555 (negsuc 47)) k.sign k.units k.value k.small));
}

case_up_3 : (x : Float) (X : ℕ) → Reached (x ⊕ fin true 2652839157010665 (negsuc 48)) false X (3 * N) → BothInBound (sin_at (record { r = x ⊕ fin true 2652839157010665 (negsuc 48); k = 3 })) (cos_at (record { r = x ⊕ fin true 2652839157010665 (negsuc 48); k = 3 })) false X
unfolding sin_at cos_at pick
case_up_3 x X k = record {
  sine = finish (neg (cos_sum (x ⊕ fin true 2652839157010665 (negsuc 48)))) false k.sign X k.units (as_diff false (3 * N)) (sin_poly terms) (minus_poly (cos_poly 9)) k.small k.same sin_up_3 (neg_near (cos_sum (x ⊕ fin true 2652839157010665 (negsuc 48))) (cos_poly 9) (as_diff k.sign k.units) (cos_near (x ⊕ fin true 2652839157010665 (negsuc 48)) k.sign k.units k.value k.small));
  cosine = finish (sin_sum (x ⊕ fin true 2652839157010665 (negsuc 48))) false k.sign X k.units (as_diff false (3 * N)) (cos_poly terms) (sin_poly 9) k.small k.same cos_up_3 (sin_near (x ⊕ fin true 2652839157010665 (negsuc 48)) k.sign k.units k.value k.small);
}

case_down_0 : (x : Float) (X : ℕ) → Reached (x ⊕ fin true 0 (pos 0)) true X (0 * N) → BothInBound (sin_at (record { r = x ⊕ fin true 0 (pos 0); k = 0 })) (cos_at (record { r = x ⊕ fin true 0 (pos 0); k = 0 })) true X
unfolding sin_at cos_at pick
case_down_0 x X k = record {
  sine = finish (sin_sum (x ⊕ fin true 0 (pos 0))) true k.sign X k.units (as_diff true (0 * N)) (sin_poly terms) (sin_poly 9) k.small k.same sin_up_0 (sin_near (x ⊕ fin true 0 (pos 0)) k.sign k.units k.value k.small);
  cosine = finish (cos_sum (x ⊕ fin true 0 (pos 0))) true k.sign X k.units (as_diff true (0 * N)) (cos_poly terms) (cos_poly 9) k.small k.same cos_up_0 (cos_near (x ⊕ fin true 0 (pos 0)) k.sign k.units k.value k.small);
}

case_down_1 : (x : Float) (X : ℕ) → Reached (x ⊕ fin false 884279719003555 (negsuc 48)) true X (1 * N) → BothInBound (sin_at (record { r = x ⊕ fin false 884279719003555 (negsuc 48); k = 3 })) (cos_at (record { r = x ⊕ fin false 884279719003555 (negsuc 48); k = 3 })) true X
unfolding sin_at cos_at pick
case_down_1 x X k = record {
  sine = finish (neg (cos_sum (x ⊕ fin false 884279719003555 (negsuc 48)))) true k.sign X k.units (as_diff true (1 * N)) (sin_poly terms) (minus_poly (cos_poly 9)) k.small k.same sin_down_1 (neg_near (cos_sum (x ⊕ fin false 884279719003555 (negsuc 48))) (cos_poly 9) (as_diff k.sign k.units) (cos_near (x ⊕ fin false 884279719003555 (negsuc 48)) k.sign k.units k.value k.small));
  cosine = finish (sin_sum (x ⊕ fin false 884279719003555 (negsuc 48))) true k.sign X k.units (as_diff true (1 * N)) (cos_poly terms) (sin_poly 9) k.small k.same cos_down_1 (sin_near (x ⊕ fin false 884279719003555 (negsuc 48)) k.sign k.units k.value k.small);
}

case_down_2 : (x : Float) (X : ℕ) → Reached (x ⊕ fin false 884279719003555 (negsuc 47)) true X (2 * N) → BothInBound (sin_at (record { r = x ⊕ fin false 884279719003555 (negsuc 47); k = 2 })) (cos_at (record { r = x ⊕ fin false 884279719003555 (negsuc 47); k = 2 })) true X
unfolding sin_at cos_at pick
case_down_2 x X k = record {
  sine = finish (neg (sin_sum (x ⊕ fin false 884279719003555 (negsuc 47)))) true k.sign X k.units (as_diff true (2 * N)) (sin_poly terms) (minus_poly (sin_poly 9)) k.small k.same sin_down_2 (neg_near (sin_sum (x ⊕ fin false 884279719003555 (negsuc 47))) (sin_poly 9) (as_diff k.sign k.units) (sin_near (x ⊕ fin false 884279719003555 (negsuc 47)) k.sign k.units k.value k.small));
  cosine = finish (neg (cos_sum (x ⊕ fin false 884279719003555 (negsuc 47)))) true k.sign X k.units (as_diff true (2 * N)) (cos_poly terms) (minus_poly (cos_poly 9)) k.small k.same cos_down_2 (neg_near (cos_sum (x ⊕ fin false 884279719003555 (negsuc 47))) (cos_poly 9) (as_diff k.sign k.units) (cos_near (x ⊕ fin false 884279719003555 (negsuc 47)) k.sign k.units k.value k.small));
}

case_down_3 : (x : Float) (X : ℕ) → Reached (x ⊕ fin false 2652839157010665 (negsuc 48)) true X (3 * N) → BothInBound (sin_at (record { r = x ⊕ fin false 2652839157010665 (negsuc 48); k = 1 })) (cos_at (record { r = x ⊕ fin false 2652839157010665 (negsuc 48); k = 1 })) true X
unfolding sin_at cos_at pick
case_down_3 x X k = record {
  sine = finish (cos_sum (x ⊕ fin false 2652839157010665 (negsuc 48))) true k.sign X k.units (as_diff true (3 * N)) (sin_poly terms) (cos_poly 9) k.small k.same sin_down_3 (cos_near (x ⊕ fin false 2652839157010665 (negsuc 48)) k.sign k.units k.value k.small);
  cosine = finish (neg (sin_sum (x ⊕ fin false 2652839157010665 (negsuc 48)))) true k.sign X k.units (as_diff true (3 * N)) (cos_poly terms) (minus_poly (sin_poly 9)) k.small k.same cos_down_3 (neg_near (sin_sum (x ⊕ fin false 2652839157010665 (negsuc 48))) (sin_poly 9) (as_diff k.sign k.units) (sin_near (x ⊕ fin false 2652839157010665 (negsuc 48)) k.sign k.units k.value k.small));
}

-- ---- the exact difference
half_least : (U n m X : ℕ) → 1570 * U ≤ 1000 * n → n ≤ m → 128 * m ≤ 128 * X + 101 * U → U ≤ 2 * X
half_least U n m X h k l = omega arith

halved : (w X : ℕ) → 2 * w ≤ 2 * X → w ≤ X
halved w X h = omega arith

room : (i X n U : ℕ) → i ≤ 3 * n → n ≤ 2 * U → X ≤ 4 * U → X + i ≤ 2 ^ 22 * U
room i X n U h k l = omega arith

same_zero : (X D : ℕ) → D ≡ (X - 0) + (0 - X) → D ≡ X
same_zero X D h = omega arith

module _ (s : Bool) (m : ℕ) (e : ℤ) (X : ℕ) (t : T (fits binary64 (fin s m e))) (v : Val (fin s m e) s X) (h : X ≤ 4 * 2 ^ 1074) where
  held : Held53 X
  held = units_form s m e X t v

  -- with i quarter turns, b * 2 ^ 1021 units
  met : (i b : ℕ) (c : Float) → 1 ≤ i → i ≤ 3 → i * N ≡ b * 2 ^ 1021 → Val c (not s) (i * N) → 128 * X ≤ 128 * (i * N) + 101 * 2 ^ 1074 → 128 * (i * N) ≤ 128 * X + 101 * 2 ^ 1074 → Reached (fin s m e ⊕ c) s X (i * N)
  met i b c lo hi is w p q =
      let a = coarse X held (halved (2 ^ 1073) X (half_least (2 ^ 1074) N (i * N) X (lit≤ tt) (le_trans (le_of_eq (sym (one N))) (mul-le-mul_right N lo)) q)) in
      reached (fin s m e) c s (not s) X (i * N) refl refl v w (room (i * N) X N (2 ^ 1074) (mul-le-mul_right N hi) (lit≤ tt) h) p q (λ (D : ℕ) (z : D ≡ (X - i * N) + (i * N - X)) (d : 128 * D ≤ 101 * 2 ^ 1074). held_between a.0 b X (i * N) D a.1 is z d)
    where
      one : (n : ℕ) → 1 * n ≡ n
      one n = omega arith

  none : (c : Float) (u : Bool) → Val c u 0 → 128 * X ≤ 128 * 0 + 101 * 2 ^ 1074 → Reached (fin s m e ⊕ c) s X 0
  none c u w p = reached (fin s m e) c s u X 0 (zero_plus u (not s)) (zero_minus u (not s)) v w (room 0 X 0 (2 ^ 1074) zero-le zero-le h) p zero-le (λ (D : ℕ) (z : D ≡ (X - 0) + (0 - X)) (d : 128 * D ≤ 101 * 2 ^ 1074). subst Held53 (sym (same_zero X D z)) held)
    where
      zero_plus : (u t : Bool) → plus u 0 ≡ plus t 0
      zero_plus true true = refl
      zero_plus true false = refl
      zero_plus false true = refl
      zero_plus false false = refl

      zero_minus : (u t : Bool) → minus u 0 ≡ minus t 0
      zero_minus true true = refl
      zero_minus true false = refl
      zero_minus false true = refl
      zero_minus false false = refl

-- ---- the reduction by its number of quarter turns
turn_up : (m : ℕ) (e : ℤ) (X i : ℕ) → T (fits binary64 (fin false m e)) → Val (fin false m e) false X → X ≤ 4 * 2 ^ 1074 → i ≤ 3 → nearest_whole (fin false m e ⊘ frac_pi_2) ≡ pos i
    → 128 * X ≤ 128 * (i * N) + 101 * 2 ^ 1074 → 128 * (i * N) ≤ 128 * X + 101 * 2 ^ 1074 → BothInBound (sin_at (reduce (fin false m e))) (cos_at (reduce (fin false m e))) false X
unfolding sub mul of_int neg of_bits quarter
turn_up m e X zero t v h l is p q = subst (λ (d : Reduced). BothInBound (sin_at d) (cos_at d) false X) (reduced_at (fin false m e) (pos 0) is) (case_up_0 (fin false m e) X (none false m e X t v h (fin true 0 (pos 0)) true (refl, refl) p))
turn_up m e X (suc zero) t v h l is p q = subst (λ (d : Reduced). BothInBound (sin_at d) (cos_at d) false X) (reduced_at (fin false m e) (pos 1) is) (case_up_1 (fin false m e) X (met false m e X t v h 1 14148475504056880 (fin true 884279719003555 (negsuc 48)) (lit≤ tt) (lit≤ tt) refl (refl, refl) p q))
turn_up m e X (suc (suc zero)) t v h l is p q = subst (λ (d : Reduced). BothInBound (sin_at d) (cos_at d) false X) (reduced_at (fin false m e) (pos 2) is) (case_up_2 (fin false m e) X (met false m e X t v h 2 28296951008113760 (fin true 884279719003555 (negsuc 47)) (lit≤ tt) (lit≤ tt) refl (refl, refl) p q))
turn_up m e X (suc (suc (suc zero))) t v h l is p q = subst (λ (d : Reduced). BothInBound (sin_at d) (cos_at d) false X) (reduced_at (fin false m e) (pos 3) is) (case_up_3 (fin false m e) X (met false m e X t v h 3 42445426512170640 (fin true 2652839157010665 (negsuc 48)) (lit≤ tt) (lit≤ tt) refl (refl, refl) p q))
turn_up m e X (suc (suc (suc (suc i)))) t v h l is p q = absurd (far i l)
  where
    far : (i : ℕ) → suc (suc (suc (suc i))) ≤ 3 → ⊥
    far i l = omega arith

turn_down : (m : ℕ) (e : ℤ) (X i : ℕ) → T (fits binary64 (fin true m e)) → Val (fin true m e) true X → X ≤ 4 * 2 ^ 1074 → i ≤ 3 → nearest_whole (fin true m e ⊘ frac_pi_2) ≡ neg_ℤ (pos i)
    → 128 * X ≤ 128 * (i * N) + 101 * 2 ^ 1074 → 128 * (i * N) ≤ 128 * X + 101 * 2 ^ 1074 → BothInBound (sin_at (reduce (fin true m e))) (cos_at (reduce (fin true m e))) true X
unfolding sub mul of_int neg of_bits quarter
turn_down m e X zero t v h l is p q = subst (λ (d : Reduced). BothInBound (sin_at d) (cos_at d) true X) (reduced_at (fin true m e) (pos 0) is) (case_down_0 (fin true m e) X (none true m e X t v h (fin true 0 (pos 0)) true (refl, refl) p))
turn_down m e X (suc zero) t v h l is p q = subst (λ (d : Reduced). BothInBound (sin_at d) (cos_at d) true X) (reduced_at (fin true m e) (negsuc 0) is) (case_down_1 (fin true m e) X (met true m e X t v h 1 14148475504056880 (fin false 884279719003555 (negsuc 48)) (lit≤ tt) (lit≤ tt) refl (refl, refl) p q))
turn_down m e X (suc (suc zero)) t v h l is p q = subst (λ (d : Reduced). BothInBound (sin_at d) (cos_at d) true X) (reduced_at (fin true m e) (negsuc 1) is) (case_down_2 (fin true m e) X (met true m e X t v h 2 28296951008113760 (fin false 884279719003555 (negsuc 47)) (lit≤ tt) (lit≤ tt) refl (refl, refl) p q))
turn_down m e X (suc (suc (suc zero))) t v h l is p q = subst (λ (d : Reduced). BothInBound (sin_at d) (cos_at d) true X) (reduced_at (fin true m e) (negsuc 2) is) (case_down_3 (fin true m e) X (met true m e X t v h 3 42445426512170640 (fin false 2652839157010665 (negsuc 48)) (lit≤ tt) (lit≤ tt) refl (refl, refl) p q))
turn_down m e X (suc (suc (suc (suc i)))) t v h l is p q = absurd (far i l)
  where
    far : (i : ℕ) → suc (suc (suc (suc i))) ≤ 3 → ⊥
    far i l = omega arith

-- ---- every angle of size at most 4
cancel : (U a b X : ℕ) → 0 < U → a * U ≡ X * b → X ≤ 4 * U → a ≤ 4 * b
cancel U a b X p e h = le_of_mul-le-mul_right {k = U} (le_trans (le_of_eq e) (le_trans (mul-le-mul_right b h) (le_of_eq (mul_right_comm 4 U b)))) p

within_turn : (a b : ℕ) → 0 < b → a ≤ 4 * b → a * 2 ^ 47 < 884279719003555 * 1 * b
within_turn a b p h = omega arith

unturned : (s : Bool) (m : ℕ) (e : ℤ) (X : ℕ) → T (fits binary64 (fin s m e)) → Val (fin s m e) s X → X ≤ 4 * 2 ^ 1074 → rem binary64 (fin s m e) tau ≡ fin s m e
unturned s m e X t v h = rem_small s m e t (within_turn (m * up e) (down e) (down_pos e) (cancel (2 ^ 1074) (m * up e) (down e) X (lit< tt) v.1 h))

turn_any : (s : Bool) (m : ℕ) (e : ℤ) (X : ℕ) → T (fits binary64 (fin s m e)) → Val (fin s m e) s X → X ≤ 4 * 2 ^ 1074 → BothInBound (sin_at (reduce (fin s m e))) (cos_at (reduce (fin s m e))) s X
turn_any s m e X t v h =
    let q = quotient (fin s m e) s X v (le_trans h (lit≤ tt)) in
    let n = nearest_is (fin s m e ⊘ frac_pi_2) s q.units q.value in
    let i = n.count in
    let U = 2 ^ 1074 in
    let l = few_turns U N X q.units i refl (lit≤ tt) (lit≤ tt) h q.off n.least in
    go s m e X i t v h l n.is (above U N X q.units i refl (lit≤ tt) (lit≤ tt) h q.off n.most l) (below U N X q.units i refl (lit≤ tt) (lit≤ tt) h q.off n.least)
  where
    go : (s : Bool) (m : ℕ) (e : ℤ) (X i : ℕ) → T (fits binary64 (fin s m e)) → Val (fin s m e) s X → X ≤ 4 * 2 ^ 1074 → i ≤ 3 → nearest_whole (fin s m e ⊘ frac_pi_2) ≡ cond s (neg_ℤ (pos i)) (pos i)
        → 128 * X ≤ 128 * (i * N) + 101 * 2 ^ 1074 → 128 * (i * N) ≤ 128 * X + 101 * 2 ^ 1074 → BothInBound (sin_at (reduce (fin s m e))) (cos_at (reduce (fin s m e))) s X
    go true m e X i t v h l is p q = turn_down m e X i t v h l is p q
    go false m e X i t v h l is p q = turn_up m e X i t v h l is p q

pub accurate : (x : Float) (s : Bool) (X : ℕ) → T (fits binary64 x) → Val x s X → X ≤ 4 * 2 ^ 1074 → BothInBound (sin x) (cos x) s X
accurate nan s X t v h = absurd v
accurate (inf u) s X t v h = absurd v
accurate (fin u m e) s X t v h =
    subst (λ (b : Bool). BothInBound (sin (fin u m e)) (cos (fin u m e)) b X) v.0
    (let k = turn_any u m e X t (refl, v.1) h in
    let r = unturned u m e X t (refl, v.1) h in
    record {
      sine = subst (λ (y : Float). InBound y (ev (sin_poly terms) (as_diff u X))) (ap (λ (y : Float). sin_at (reduce y)) (sym r) ∙ sin_open (fin u m e)) k.sine;
      cosine = subst (λ (y : Float). InBound y (ev (cos_poly terms) (as_diff u X))) (ap (λ (y : Float). cos_at (reduce y)) (sym r) ∙ cos_open (fin u m e)) k.cosine;
    })
