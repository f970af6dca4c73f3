-- What `nearest-whole` of specs/Sine.antt is: the whole number nearest to a finite value, halves toward zero. Assumes nothing.
use mathlib.Core.Path.{◌≡◌, refl}
use Prim.Native.Nat.{ℕ, ◌+◌, ◌-◌, ◌*◌, ◌/◌, ◌%◌, ◌≤◌, ◌<◌}
use native.Mathlib.Nat.{mod-lt, div-add-mod'}
use native.Mathlib.Omega.{arith}
use mathlib.Core.Bool.{Bool, cond}
use lib.IntN.{ℤ, pos, neg_ℤ}
use lib.Ieee.{fin, up, down}
use lib.Ieee.Fits.{down_pos}
use Rattle.float.specs.Sine.{nearest_whole}

-- k - 1/2 < a / b ≤ k + 1/2: no whole number is nearer to a / b than k is, and of two as near k is the one toward zero
pub record Nearest (a b k : ℕ) : Type 0 where
  pub above : 2 * k * b < 2 * a + b
  pub below : 2 * a ≤ (2 * k + 1) * b

cut : (a b : ℕ) → 0 < b → Nearest a b ((2 * a + b - 1) / (2 * b))
cut a b p =
    let k = (2 * a + b - 1) / (2 * b) in
    let e : k * (2 * b) + (2 * a + b - 1) % (2 * b) ≡ 2 * a + b - 1 = div-add-mod' (2 * a + b - 1) (2 * b) in
    let l : (2 * a + b - 1) % (2 * b) < 2 * b = mod-lt (2 * a + b - 1) (omega arith) in
    record { above = omega arith; below = omega arith }

-- of the value whose sign is s and whose size is a / b
pub nearest : (s : Bool) (m : ℕ) (e : ℤ) → (k : ℕ) × (nearest_whole (fin s m e) ≡ cond s (neg_ℤ (pos k)) (pos k)) × Nearest (m * up e) (down e) k
unfolding nearest_whole
nearest s m e = ((2 * (m * up e) + down e - 1) / (2 * down e), refl, cut (m * up e) (down e) (down_pos e))
