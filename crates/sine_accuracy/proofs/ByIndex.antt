-- The coefficients by their index. Assumes nothing.
use Prim.Native.Nat.{ℕ, zero, suc, ◌+◌, ◌*◌, ◌≤◌}
use native.Mathlib.Omega.{arith}
use Rattle.float.specs.Sine.{term, fact}
use Rattle.sine_accuracy.proofs.Series.{share, signed_by}
use Rattle.sine_accuracy.proofs.Nested.{Coef}
use Rattle.sine_accuracy.proofs.Coefs.{sin_0, sin_1, sin_2, sin_3, sin_4, sin_5, sin_6, sin_7, sin_8, cos_0, cos_1, cos_2, cos_3, cos_4, cos_5, cos_6, cos_7, cos_8}

pub sin_coef : (j : ℕ) → j ≤ 8 → Coef (fact 41) (term j (2 * j + 1)) (signed_by j (share (2 * j + 1))).p (signed_by j (share (2 * j + 1))).n
sin_coef zero h = sin_0
sin_coef (suc zero) h = sin_1
sin_coef (suc (suc zero)) h = sin_2
sin_coef (suc (suc (suc zero))) h = sin_3
sin_coef (suc (suc (suc (suc zero)))) h = sin_4
sin_coef (suc (suc (suc (suc (suc zero))))) h = sin_5
sin_coef (suc (suc (suc (suc (suc (suc zero)))))) h = sin_6
sin_coef (suc (suc (suc (suc (suc (suc (suc zero))))))) h = sin_7
sin_coef (suc (suc (suc (suc (suc (suc (suc (suc zero)))))))) h = sin_8
sin_coef (suc (suc (suc (suc (suc (suc (suc (suc (suc j))))))))) h = absurd (far j h)
  where
    far : (j : ℕ) → suc (suc (suc (suc (suc (suc (suc (suc (suc j)))))))) ≤ 8 → ⊥
    far j h = omega arith

pub cos_coef : (j : ℕ) → j ≤ 8 → Coef (fact 41) (term j (2 * j)) (signed_by j (share (2 * j + 0))).p (signed_by j (share (2 * j + 0))).n
cos_coef zero h = cos_0
cos_coef (suc zero) h = cos_1
cos_coef (suc (suc zero)) h = cos_2
cos_coef (suc (suc (suc zero))) h = cos_3
cos_coef (suc (suc (suc (suc zero)))) h = cos_4
cos_coef (suc (suc (suc (suc (suc zero))))) h = cos_5
cos_coef (suc (suc (suc (suc (suc (suc zero)))))) h = cos_6
cos_coef (suc (suc (suc (suc (suc (suc (suc zero))))))) h = cos_7
cos_coef (suc (suc (suc (suc (suc (suc (suc (suc zero)))))))) h = cos_8
cos_coef (suc (suc (suc (suc (suc (suc (suc (suc (suc j))))))))) h = absurd (far j h)
  where
    far : (j : ℕ) → suc (suc (suc (suc (suc (suc (suc (suc (suc j)))))))) ≤ 8 → ⊥
    far j h = omega arith
