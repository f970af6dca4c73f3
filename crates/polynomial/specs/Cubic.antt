-- solve_cubic_roots of subproblems/auxiliary.rs: "Solves the roots of a cubic equation using the cubic formula", https://en.wikipedia.org/wiki/Cubic_equation#General_cubic_formula.
-- A let of the Rust is a let here, by its name. Document 01: "Roots fall to the lower degree exactly if |a| < 1e-12."
use Rattle.std.specs.Prelude.{cond, List, [], ◌∷◌}
use Rattle.std.specs.Float.Ieee.{lt, neg}
use Rattle.float.specs.Num.{as_f64, one, two}
use Rattle.complex.specs.Complex.{◌+ᶜ◌, ◌-ᶜ◌, ◌*ᶜ◌, ◌/ᶜ◌, overᶜ, real_overᶜ, absᶜ, sqrtᶜ, cbrtᶜ}
use Rattle.complex.specs.declared.Complex.{Complex}
use Rattle.polynomial.specs.Const.{epsilon}
use Rattle.polynomial.specs.Roots.{◌·ᶜ◌, from_real}
use Rattle.polynomial.specs.Quadratic.{solve_quadratic_roots}
use Rattle.polynomial.specs.declared.Cubic.{Cubic}

unfoldable pub z : Complex
z = overᶜ (from_real (neg one) +ᶜ sqrtᶜ (from_real (neg (as_f64 3)))) two

unfoldable pub p1_of : Complex → Complex → Complex → Complex
p1_of a b c = b *ᶜ b -ᶜ 3 ·ᶜ a *ᶜ c

unfoldable pub p2_of : Complex → Complex → Complex → Complex → Complex
p2_of a b c d = 2 ·ᶜ b *ᶜ b *ᶜ b -ᶜ 9 ·ᶜ a *ᶜ b *ᶜ c +ᶜ 27 ·ᶜ a *ᶜ a *ᶜ d

unfoldable pub q1_of : Complex → Complex → Complex
q1_of p1 p2 = cbrtᶜ (overᶜ (p2 +ᶜ sqrtᶜ (p2 *ᶜ p2 -ᶜ 4 ·ᶜ p1 *ᶜ p1 *ᶜ p1)) two)

unfoldable pub q2_of : Complex → Complex → Complex
q2_of p1 p2 = cbrtᶜ (overᶜ (p2 +ᶜ sqrtᶜ (p2 *ᶜ p2 +ᶜ 4 ·ᶜ p1 *ᶜ p1 *ᶜ p1)) two)

-- -1.0 / (3.0 * a)
unfoldable pub outer : Complex → Complex
outer a = real_overᶜ (neg one) (3 ·ᶜ a)

-- the root that e gives: -1.0 / (3.0 * a) * (b + e + p1 / e)
abbrev pub root : Complex → Complex → Complex → Complex → Complex
root a b p1 e = outer a *ᶜ (b +ᶜ e +ᶜ p1 /ᶜ e)

unfoldable pub three_roots : Complex → Complex → Complex → Complex → List Complex
three_roots a b p1 e0 =
    let e1 = e0 *ᶜ z in
    let e2 = e1 *ᶜ z in
    root a b p1 e0 ∷ root a b p1 e1 ∷ root a b p1 e2 ∷ []

-- the root that stands three times
unfoldable pub one_root : Complex → Complex → List Complex
one_root a b = let r = outer a *ᶜ b in r ∷ r ∷ r ∷ []

unfoldable pub solve_cubic_roots : Cubic → List Complex
solve_cubic_roots p =
    let a = p.a in
    let b = p.b in
    let c = p.c in
    let d = p.d in
    cond (lt (absᶜ a) epsilon) (solve_quadratic_roots (record { a = b; b = c; c = d }))
    (let p1 = p1_of a b c in
    let p2 = p2_of a b c d in
    let q1 = q1_of p1 p2 in
    let q2 = q2_of p1 p2 in
    cond (lt epsilon (absᶜ q1)) (three_roots a b p1 q1)
    (cond (lt epsilon (absᶜ q2)) (three_roots a b p1 q2) (one_root a b)))
