-- How long texts of numbers are.
use Prim.Native.Nat.{ℕ, zero, suc, ◌≤◌, ◌/◌}
use mathlib.Core.Path.{◌≡◌, refl}
use mathlib.Core.Bool.{Bool, true, false, cond}
use native.Mathlib.Omega.{arith}
use lib.Dec.{ltb}
use lib.ListN.{length, length-append}
use Rattle.text.specs.Text.{digits, places, decimal}

pub digits_long : (base k n : ℕ) → length (digits base k n) ≡ k
unfolding digits
digits_long base zero n = refl
digits_long base (suc k) n = rw length-append (omega (arith, digits_long base k (n / base)))

at_most : (b : Bool) (k p : ℕ) → p ≤ suc k → cond b 1 (suc p) ≤ suc (suc k)
at_most true k p h = omega arith
at_most false k p h = omega arith

pub places_few : (k n : ℕ) → places k n ≤ suc k
unfolding places
places_few zero n = omega arith
places_few (suc k) n = at_most (ltb n 10) k (places k (n / 10)) (places_few k (n / 10))

-- a 64-bit number takes at most 20 bytes
pub decimal_few : (n : ℕ) → length (decimal n) ≤ 20
unfolding decimal
decimal_few n = rw (digits_long 10 (places 19 n) n) (places_few 19 n)
