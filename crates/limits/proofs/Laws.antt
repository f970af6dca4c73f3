-- What follows where limits are not refused.
use Prim.Native.Nat.{ℕ}
use mathlib.Core.Path.{◌≡◌, refl, sym}
use mathlib.Core.Bool.{Bool, true, false, cond, ◌&&◌}
use mathlib.Core.List.{List}
use native.Mathlib.Omega.{arith}
use borrow.Author.Tests.{ne_eqb, eqb-true}
use lib.Dec.{eqb}
use lib.Ieee.{Float}
use lib.ListN.{length}
use Rattle.limits.specs.Limits.{TwelveOrNone, fit, refusal_10}

module _ (l : List Float) where
  -- limits of any other number are refused
  pub another_length : (length l ≡ 0 → ⊥) → (length l ≡ 12 → ⊥) → 10 ≡ refusal_10 l
  unfolding refusal_10
  another_length some h = rw (ne_eqb (length l) 0 some, ne_eqb (length l) 12 h)

  -- limits that are not refused are twelve or none
  by_refusal : (a b : Bool) → ◌≡◌ {A = ℕ} (cond a 0 (cond b 0 10)) 0 → (a ≡ false) → b ≡ true
  by_refusal a true e f = refl
  by_refusal true false e f = sym f
  by_refusal false false e f = let z : ◌≡◌ {A = ℕ} 10 0 = e in absurd (omega arith)

  first_of : (a b : Bool) → a && b ≡ true → a ≡ true
  first_of true b e = refl
  first_of false b e = e

  pub twelve_or_none : refusal_10 l ≡ 0 → TwelveOrNone l
  unfolding refusal_10
  twelve_or_none e some =
      let t = by_refusal (eqb (length l) 0) (eqb (length l) 12 && fit l) e (ne_eqb (length l) 0 some) in
      eqb-true (length l) 12 (first_of (eqb (length l) 12) (fit l) t)
