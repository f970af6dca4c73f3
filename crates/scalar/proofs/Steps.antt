-- The remainder of m * 2 ^ k, some binary places at a step. Assumes nothing.
use mathlib.Core.Path.{◌≡◌, sym, ap, ◌∙◌}
use Prim.Native.Nat.{ℕ, ◌+◌, ◌-◌, ◌*◌, ◌%◌, ◌^◌, ◌≤◌, ◌<◌}
use native.Mathlib.Nat.{mul_assoc, mod-eq_of_lt, mod-lt, lt_of_lt_of_le}
use lib.Dec.{lit<, lit≤}
use native.Mathlib.Omega.{arith}
use lib.Pow.{pow-add, pow_mono, shl_lt}
use Rattle.std.proofs.lemmas.Nat.{mul-mod_first}
use Rattle.scalar.specs.Digits.{tau_digits}

-- eleven places are taken off what is left
pub places : (r n p : ℕ) → 11 ≤ n → r * 2048 % p * 2 ^ (n - 11) % p ≡ r * 2 ^ n % p
places r n p h =
    let e : 11 + (n - 11) ≡ n = omega arith in
    mul-mod_first (r * 2 ^ 11) (2 ^ (n - 11)) p
    ∙ ap (λ (x : ℕ). x % p) (mul_assoc r (2 ^ 11) (2 ^ (n - 11)) ∙ ap (λ (x : ℕ). r * x) (sym (pow-add 2 11 (n - 11)) ∙ ap (λ (x : ℕ). 2 ^ x) e))

-- the last of them lose no bit
pub shifted : (r n : ℕ) → r < 2 ^ 53 → n < 11 → r * 2 ^ n % 2 ^ 64 ≡ r * 2 ^ n
shifted r n h k = mod-eq_of_lt (lt_of_lt_of_le (shl_lt 53 n h) (pow_mono e))
  where
    e : 53 + n ≤ 64
    e = omega arith

-- TAU has 53 digits
pub few : (n : ℕ) → n % tau_digits < 2 ^ 53
few n = lt_of_lt_of_le (mod-lt n (lit< tt)) (lit≤ tt)
