-- From the digits m and the exponent j of a value of u units to its rounded root: m, times 2 or 4 where j asks for it, with 54 or 107 digits more, is a number W whose whole root R has 54 digits. Assumes nothing.
use mathlib.Core.Path.{◌≡◌, refl, sym, ap, ◌∙◌, subst}
use Prim.Native.Nat.{ℕ, zero, suc, ◌+◌, ◌*◌, ◌/◌, ◌%◌, ◌^◌, ◌≤◌, ◌<◌}
use native.Mathlib.Nat.{mul_assoc, mul-le-mul_right, mul-lt-mul_of_pos_right, mul-mod_left}
use native.Mathlib.Omega.{arith}
use mathlib.Core.Bool.{false}
use lib.Pow.{pow-add, pow_pos}
use lib.Ieee.{binary64, to_bits}
use Rattle.root.specs.Root.{WholeRoot, square, cube, whole_root, rounded}
use Rattle.root.specs.Nearest.{NearestRoot}
use Rattle.root.specs.Steps.{Normal}
use Rattle.root.specs.declared.Digits.{Digits}
use Rattle.root.proofs.Power.{squares, cubes}
use Rattle.root.proofs.Whole.{whole_root_is}
use Rattle.root.proofs.Halfway.{root_bits, root_near}

-- D * c * G is 2 ^ j, but for l digits
joined : (m j u D c G l : ℕ) → m * 2 ^ j ≡ u * 2 ^ 52 → D * c * G ≡ 2 ^ j * 2 ^ l → u * 2 ^ (52 + l) ≡ m * D * c * G
joined m j u D c G l h e =
    ap (λ (x : ℕ). u * x) (pow-add 2 52 l)
    ∙ sym (mul_assoc u (2 ^ 52) (2 ^ l))
    ∙ ap (λ (x : ℕ). x * 2 ^ l) (sym h)
    ∙ mul_assoc m (2 ^ j) (2 ^ l)
    ∙ ap (λ (x : ℕ). m * x) (sym e)
    ∙ sym (mul_assoc m (D * c) G)
    ∙ ap (λ (x : ℕ). x * G) (sym (mul_assoc m D c))

-- ---- W's bounds, and its last digit
least : (m c : ℕ) → 2 ^ 52 ≤ m → 2 ^ 52 * 2 ^ c ≤ m * 2 ^ c
least m c h = mul-le-mul_right (2 ^ c) h

most : (m c k : ℕ) → m < 2 ^ k → m * 2 ^ c < 2 ^ k * 2 ^ c
most m c k h = mul-lt-mul_of_pos_right h (pow_pos c)

even : (m c : ℕ) → m * (2 ^ c * 2) % 2 ≡ 0
even m c = ap (λ (x : ℕ). x % 2) (sym (mul_assoc m (2 ^ c) 2)) ∙ mul-mod_left (m * 2 ^ c) 2

-- ---- the square root: m or 2 * m
square_digit : (i : ℕ) → i < 2 → 1 + i ≡ 2 ^ i
square_digit zero h = refl
square_digit (suc zero) h = refl
square_digit (suc (suc i)) h = absurd (omega arith)

pub square_wide : (m i : ℕ) → 2 ^ 52 ≤ m → m < 2 ^ 53 → i < 2 → (2 ^ 52 ≤ m * (1 + i)) × (m * (1 + i) < 2 ^ 54)
square_wide m zero a b h = omega arith
square_wide m (suc zero) a b h = omega arith
square_wide m (suc (suc i)) a b h = absurd (omega arith)

by_two : (j : ℕ) → (1 + j % 2) * 2 ^ 54 * square (2 ^ (j / 2 + 484)) ≡ 2 ^ j * 2 ^ 1022
by_two j =
    let g = j / 2 + 484 in
    let i = j % 2 in
    let e : (i + 54) + (g + g) ≡ j + 1022 = omega arith in
    ap (λ (x : ℕ). x * 2 ^ 54 * square (2 ^ g)) (square_digit i (omega arith))
    ∙ ap (λ (x : ℕ). x * square (2 ^ g)) (sym (pow-add 2 i 54))
    ∙ ap (λ (x : ℕ). 2 ^ (i + 54) * x) (sym (pow-add 2 g g))
    ∙ sym (pow-add 2 (i + 54) (g + g))
    ∙ ap (λ (x : ℕ). 2 ^ x) e
    ∙ pow-add 2 j 1022

-- ---- the cube root: m, 2 * m or 4 * m
cube_digit : (i : ℕ) → i < 3 → 1 + i + i / 2 ≡ 2 ^ i
cube_digit zero h = refl
cube_digit (suc zero) h = refl
cube_digit (suc (suc zero)) h = refl
cube_digit (suc (suc (suc i))) h = absurd (omega arith)

pub cube_wide : (m i : ℕ) → 2 ^ 52 ≤ m → m < 2 ^ 53 → i < 3 → (2 ^ 52 ≤ m * (1 + i + i / 2)) × (m * (1 + i + i / 2) < 2 ^ 55)
cube_wide m zero a b h = omega arith
cube_wide m (suc zero) a b h = omega arith
cube_wide m (suc (suc zero)) a b h = omega arith
cube_wide m (suc (suc (suc i))) a b h = absurd (omega arith)

by_three : (j : ℕ) → (1 + j % 3 + j % 3 / 2) * 2 ^ 107 * cube (2 ^ (j / 3 + 663)) ≡ 2 ^ j * 2 ^ 2096
by_three j =
    let g = j / 3 + 663 in
    let i = j % 3 in
    let e : (i + 107) + (g + g + g) ≡ j + 2096 = omega arith in
    ap (λ (x : ℕ). x * 2 ^ 107 * cube (2 ^ g)) (cube_digit i (omega arith))
    ∙ ap (λ (x : ℕ). x * cube (2 ^ g)) (sym (pow-add 2 i 107))
    ∙ ap (λ (x : ℕ). 2 ^ (i + 107) * x) (ap (λ (x : ℕ). x * 2 ^ g) (sym (pow-add 2 g g)) ∙ sym (pow-add 2 (g + g) g))
    ∙ sym (pow-add 2 (i + 107) (g + g + g))
    ∙ ap (λ (x : ℕ). 2 ^ x) e
    ∙ pow-add 2 j 2096

module _ (u : ℕ) (d : Digits) (f : Normal u d) where
  abbrev M2 : ℕ
  M2 = d.m * (1 + d.j % 2)

  square_number : u * 2 ^ 1074 ≡ M2 * 2 ^ 54 * square (2 ^ (d.j / 2 + 484))
  square_number = joined d.m d.j u (1 + d.j % 2) (2 ^ 54) (square (2 ^ (d.j / 2 + 484))) 1022 f.same (by_two d.j)

  square_in : (2 ^ 52 ≤ M2) × (M2 < 2 ^ 54)
  square_in = square_wide d.m (d.j % 2) f.least f.most (omega arith)

  square_fine : d.j / 2 + 484 ≤ 1600
  square_fine = let h = f.exponent in omega arith

  pub sqrt_bits_are : (R : ℕ) → WholeRoot square (M2 * 2 ^ 54) R → (d.j / 2 + 485) * 2 ^ 52 + (R + 1) / 2 ≡ to_bits binary64 (rounded square false (u * 2 ^ 1074))
  sqrt_bits_are R r =
      let s : suc (d.j / 2 + 484) ≡ d.j / 2 + 485 = omega arith in
      sym
      (ap (λ (x : ℕ). to_bits binary64 (rounded square false x)) square_number
      ∙ root_bits squares (M2 * 2 ^ 54) R (d.j / 2 + 484) r (even M2 53) (least M2 54 square_in.0) (most M2 54 54 square_in.1) square_fine
      ∙ ap (λ (x : ℕ). x * 2 ^ 52 + (R + 1) / 2) s)

  pub sqrt_near : NearestRoot square (u * 2 ^ 1074) false (rounded square false (u * 2 ^ 1074))
  sqrt_near =
      let W = M2 * 2 ^ 54 in
      subst (λ (n : ℕ). NearestRoot square n false (rounded square false n)) (sym square_number)
      (root_near squares W (whole_root square W) (d.j / 2 + 484) (whole_root_is squares W) (even M2 53) (least M2 54 square_in.0) (most M2 54 54 square_in.1) square_fine false)

  abbrev M3 : ℕ
  M3 = d.m * (1 + d.j % 3 + d.j % 3 / 2)

  cube_number : u * 2 ^ 2148 ≡ M3 * 2 ^ 107 * cube (2 ^ (d.j / 3 + 663))
  cube_number = joined d.m d.j u (1 + d.j % 3 + d.j % 3 / 2) (2 ^ 107) (cube (2 ^ (d.j / 3 + 663))) 2096 f.same (by_three d.j)

  cube_in : (2 ^ 52 ≤ M3) × (M3 < 2 ^ 55)
  cube_in = cube_wide d.m (d.j % 3) f.least f.most (omega arith)

  cube_fine : d.j / 3 + 663 ≤ 1600
  cube_fine = let h = f.exponent in omega arith

  pub cbrt_bits_are : (R : ℕ) → WholeRoot cube (M3 * 2 ^ 107) R → (d.j / 3 + 664) * 2 ^ 52 + (R + 1) / 2 ≡ to_bits binary64 (rounded cube false (u * 2 ^ 2148))
  cbrt_bits_are R r =
      let s : suc (d.j / 3 + 663) ≡ d.j / 3 + 664 = omega arith in
      sym
      (ap (λ (x : ℕ). to_bits binary64 (rounded cube false x)) cube_number
      ∙ root_bits cubes (M3 * 2 ^ 107) R (d.j / 3 + 663) r (even M3 106) (least M3 107 cube_in.0) (most M3 107 55 cube_in.1) cube_fine
      ∙ ap (λ (x : ℕ). x * 2 ^ 52 + (R + 1) / 2) s)

  pub cbrt_near : NearestRoot cube (u * 2 ^ 2148) false (rounded cube false (u * 2 ^ 2148))
  cbrt_near =
      let W = M3 * 2 ^ 107 in
      subst (λ (n : ℕ). NearestRoot cube n false (rounded cube false n)) (sym cube_number)
      (root_near cubes W (whole_root cube W) (d.j / 3 + 663) (whole_root_is cubes W) (even M3 106) (least M3 107 cube_in.0) (most M3 107 55 cube_in.1) cube_fine false)
