-- The Rust's loops leave the columns as the code computes them: for each of the seven joints. Assumes nothing.
use Prim.Native.Nat.{ℕ, zero, suc, ◌≤◌}
use mathlib.Core.Path.{◌≡◌, refl}
use mathlib.Core.List.{List, [], ◌∷◌}
use native.Mathlib.Omega.{arith}
use lib.Ieee.{Float}
use Rattle.linear.specs.Matrix.{Matrix}
use Rattle.linear.specs.declared.vector.Vector3.{Vector3}
use Rattle.partial.specs.Partial.{turns, h_turn, p_turn, new_h, new_p, kin_new}
use Rattle.partial.specs.Columns.{axis, offset}

abbrev six_axes : List Float → ℕ → Matrix → List Vector3
six_axes arm n r = axis arm n r 0 ∷ axis arm n r 1 ∷ axis arm n r 2 ∷ axis arm n r 3 ∷ axis arm n r 4 ∷ axis arm n r 5 ∷ []

abbrev seven_offsets : List Float → ℕ → Matrix → List Vector3
seven_offsets arm n r = offset arm n r 0 ∷ offset arm n r 1 ∷ offset arm n r 2 ∷ offset arm n r 3 ∷ offset arm n r 4 ∷ offset arm n r 5 ∷ offset arm n r 6 ∷ []

module _ (arm : List Float) (r : Matrix) where
  by_joint : (P : ℕ → Type 0) → P 0 → P 1 → P 2 → P 3 → P 4 → P 5 → P 6 → (n : ℕ) → n ≤ 6 → P n
  by_joint P p0 p1 p2 p3 p4 p5 p6 zero h = p0
  by_joint P p0 p1 p2 p3 p4 p5 p6 (suc zero) h = p1
  by_joint P p0 p1 p2 p3 p4 p5 p6 (suc (suc zero)) h = p2
  by_joint P p0 p1 p2 p3 p4 p5 p6 (suc (suc (suc zero))) h = p3
  by_joint P p0 p1 p2 p3 p4 p5 p6 (suc (suc (suc (suc zero)))) h = p4
  by_joint P p0 p1 p2 p3 p4 p5 p6 (suc (suc (suc (suc (suc zero))))) h = p5
  by_joint P p0 p1 p2 p3 p4 p5 p6 (suc (suc (suc (suc (suc (suc zero)))))) h = p6
  by_joint P p0 p1 p2 p3 p4 p5 p6 (suc (suc (suc (suc (suc (suc (suc n))))))) h = absurd (omega arith)

  pub new_axes : (n : ℕ) → n ≤ 6 → new_h arm n r ≡ six_axes arm n r
  unfolding new_h turns h_turn axis
  new_axes = by_joint (λ n. new_h arm n r ≡ six_axes arm n r) refl refl refl refl refl refl refl

  pub new_offsets : (n : ℕ) → n ≤ 6 → new_p arm n r ≡ seven_offsets arm n r
  unfolding new_p turns p_turn offset
  new_offsets = by_joint (λ n. new_p arm n r ≡ seven_offsets arm n r) refl refl refl refl refl refl refl

  -- so the arm that is left is made of them
  pub columns : (n : ℕ)
      → n ≤ 6
      → kin_new arm n r
      ≡ record {
        h1 = axis arm n r 0;
        h2 = axis arm n r 1;
        h3 = axis arm n r 2;
        h4 = axis arm n r 3;
        h5 = axis arm n r 4;
        h6 = axis arm n r 5;
        p0 = offset arm n r 0;
        p1 = offset arm n r 1;
        p2 = offset arm n r 2;
        p3 = offset arm n r 3;
        p4 = offset arm n r 4;
        p5 = offset arm n r 5;
        p6 = offset arm n r 6;
      }
  unfolding kin_new
  columns n h = rw (new_axes n h, new_offsets n h)
