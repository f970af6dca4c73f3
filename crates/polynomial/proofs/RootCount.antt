-- A quartic has at most four roots, and so at most four real ones.
use Prim.Native.Nat.{◌+◌, ◌≤◌}
use mathlib.Core.Bool.{Bool, true, false, cond}
use mathlib.Core.List.{List, [], ◌∷◌}
use native.Mathlib.Omega.{arith}
use lib.Ieee.{Float, lt}
use lib.ListN.{length}
use Rattle.float.specs.Number.{abs}
use Rattle.complex.specs.Complex.{absᶜ}
use Rattle.complex.specs.declared.Complex.{Complex}
use Rattle.polynomial.specs.Const.{epsilon}
use Rattle.polynomial.specs.Roots.{real_parts}
use Rattle.polynomial.specs.Quadratic.{solve_quadratic_roots}
use Rattle.polynomial.specs.Cubic.{p1_of, p2_of, q1_of, q2_of, three_roots, one_root, solve_cubic_roots}
use Rattle.polynomial.specs.Quartic.{four_roots, formula, solve_quartic_roots}
use Rattle.polynomial.specs.declared.Quadratic.{Quadratic}
use Rattle.polynomial.specs.declared.Cubic.{Cubic}
use Rattle.polynomial.specs.declared.Quartic.{Quartic}

pub record Few (roots : List Complex) : Type 0 where
  pub at_most_four : length roots ≤ 4

either : (t : Bool) {x y : List Complex} → Few x → Few y → Few (cond t x y)
either true f g = f
either false f g = g

few_quadratic : (p : Quadratic) → Few (solve_quadratic_roots p)
unfolding solve_quadratic_roots
few_quadratic p =
    either (lt (absᶜ p.a) epsilon)
    (either (lt (absᶜ p.b) epsilon) (record { at_most_four = omega arith }) (record { at_most_four = omega arith }))
    (record { at_most_four = omega arith })

few_three : (a b p1 e0 : Complex) → Few (three_roots a b p1 e0)
unfolding three_roots
few_three a b p1 e0 = record { at_most_four = omega arith }

few_one : (a b : Complex) → Few (one_root a b)
unfolding one_root
few_one a b = record { at_most_four = omega arith }

few_cubic : (p : Cubic) → Few (solve_cubic_roots p)
unfolding solve_cubic_roots
few_cubic p =
    let s1 = p1_of p.a p.b p.c in
    let s2 = p2_of p.a p.b p.c p.d in
    either (lt (absᶜ p.a) epsilon) (few_quadratic (record { a = p.b; b = p.c; c = p.d }))
    (either (lt epsilon (absᶜ (q1_of s1 s2))) (few_three p.a p.b s1 (q1_of s1 s2))
    (either (lt epsilon (absᶜ (q2_of s1 s2))) (few_three p.a p.b s1 (q2_of s1 s2)) (few_one p.a p.b)))

few_formula : (a b c d e : Complex) → Few (formula a b c d e)
unfolding formula four_roots
few_formula a b c d e = record { at_most_four = omega arith }

pub few_quartic : (p : Quartic) → Few (solve_quartic_roots p)
unfolding solve_quartic_roots
few_quartic p =
    either (lt (absᶜ p.a) epsilon) (few_cubic (record { a = p.b; b = p.c; c = p.d; d = p.e }))
    (few_formula p.a p.b p.c p.d p.e)

-- what is kept of a list is no longer
no_longer : (t : Bool) (x : Float) (l : List Float) → length (cond t (x ∷ l) l) ≤ length l + 1
no_longer true x l = omega arith
no_longer false x l = omega arith

fewer : (epsilon : Float) (l : List Complex) → length (real_parts epsilon l) ≤ length l
unfolding real_parts
fewer epsilon [] = omega arith
fewer epsilon (z ∷ l) =
    omega (arith, no_longer (lt (abs z.im) epsilon) z.re (real_parts epsilon l), fewer epsilon l)

-- so there are at most four real roots, of any tolerance
pub few_real : (tolerance : Float) (p : Quartic) → length (real_parts tolerance (solve_quartic_roots p)) ≤ 4
few_real tolerance p = omega (arith, fewer tolerance (solve_quartic_roots p), (few_quartic p).at_most_four)
