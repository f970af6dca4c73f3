-- What the square and the cube have in common: all that a root's laws ask of a power. Assumes nothing.
use mathlib.Core.Path.{◌≡◌, refl, ap, ◌∙◌}
use mathlib.Core.Logic.{inl, inr}
use Prim.Native.Nat.{ℕ, zero, suc, ◌+◌, ◌*◌, ◌%◌, ◌≤◌, ◌<◌}
use native.Mathlib.Nat.{le_of_lt, le_of_eq, lt_of_le_of_lt, lt_of_lt_of_le, lt_of_not-le, not-le_of_lt, eq-or-lt_of_le, mul-mul-mul_comm, mul-le-mul, mul-le-mul_right, mul-lt-mul_of_pos_left, mul-pos}
use native.Mathlib.Omega.{arith}
use Rattle.root.specs.Root.{WholeRoot, square, cube}

pub record Power (p : ℕ → ℕ) : Type 0 where
  pub none : p 0 ≡ 0
  pub reaches : (a : ℕ) → a ≤ p a
  pub rises : (a b : ℕ) → a < b → p a < p b
  pub times : (a b : ℕ) → p (a * b) ≡ p a * p b
  pub odd : (t : ℕ) → p (2 * t + 1) % 2 ≡ 1

pub squares : Power square
squares = record { none = refl; reaches = reaches; rises = rises; times = λ a b. mul-mul-mul_comm a b a b; odd = odd }
  where
    reaches : (a : ℕ) → a ≤ square a
    reaches zero = omega arith
    reaches (suc a) = omega arith

    rises : (a b : ℕ) → a < b → square a < square b
    rises a b h = let p : 0 < b = omega arith in lt_of_le_of_lt (mul-le-mul_right a (le_of_lt h)) (mul-lt-mul_of_pos_left h p)

    odd : (t : ℕ) → square (2 * t + 1) % 2 ≡ 1
    odd t = omega arith

pub cubes : Power cube
cubes = record { none = refl; reaches = reaches; rises = rises; times = times; odd = odd }
  where
    reaches : (a : ℕ) → a ≤ cube a
    reaches zero = omega arith
    reaches (suc a) = omega arith

    rises : (a b : ℕ) → a < b → cube a < cube b
    rises a b h =
        let p : 0 < b = omega arith in
        lt_of_le_of_lt (mul-le-mul_right a (mul-le-mul {n₁ = a} {m₁ = a} {n₂ = b} {m₂ = b} (le_of_lt h) (le_of_lt h))) (mul-lt-mul_of_pos_left h (mul-pos p p))

    times : (a b : ℕ) → cube (a * b) ≡ cube a * cube b
    times a b = ap (λ (x : ℕ). x * (a * b)) (mul-mul-mul_comm a b a b) ∙ mul-mul-mul_comm (a * a) (b * b) a b

    odd : (t : ℕ) → cube (2 * t + 1) % 2 ≡ 1
    odd t = omega arith

module _ {p : ℕ → ℕ} (is : Power p) where
  pub mono : (a b : ℕ) → a ≤ b → p a ≤ p b
  mono a b h = elim (eq-or-lt_of_le h) [ inl e ↦ le_of_eq (ap p e) | inr l ↦ le_of_lt (is.rises a b l) ]

  pub less : (a b : ℕ) → p a < p b → a < b
  less a b h = lt_of_not-le (λ (g : b ≤ a). not-le_of_lt h (mono b a g))

  pub some : (a : ℕ) → 0 < a → 0 < p a
  some a h = lt_of_lt_of_le h (is.reaches a)

  -- a root's bounds, from its number's
  pub least : (n q b : ℕ) → WholeRoot p n q → p b ≤ n → b ≤ q
  least n q b r h = let k : b < q + 1 = less b (q + 1) (lt_of_le_of_lt h r.high) in omega arith

  pub most : (n q b : ℕ) → WholeRoot p n q → n < p b → q < b
  most n q b r h = less q b (lt_of_le_of_lt r.low h)
