-- solve_quartic_roots of subproblems/auxiliary.rs: "Solves the roots of a quartic equation using the quartic formula", https://math.stackexchange.com/a/786.
-- A let of the Rust is a let here, by its name. Document 01: "Roots fall to the lower degree exactly if |a| < 1e-12."
use Rattle.std.specs.Prelude.{cond, List, [], ◌∷◌}
use Rattle.std.specs.Float.Ieee.{lt, neg}
use Rattle.float.specs.Num.{as_f64, two}
use Rattle.complex.specs.Complex.{◌+ᶜ◌, ◌-ᶜ◌, ◌*ᶜ◌, ◌/ᶜ◌, negᶜ, scaleᶜ, overᶜ, absᶜ, sqrtᶜ, cbrtᶜ}
use Rattle.complex.specs.declared.Complex.{Complex}
use Rattle.polynomial.specs.Const.{epsilon}
use Rattle.polynomial.specs.Roots.{◌·ᶜ◌}
use Rattle.polynomial.specs.Cubic.{solve_cubic_roots}
use Rattle.polynomial.specs.declared.Quartic.{Quartic}

unfoldable pub p1_of : Complex → Complex → Complex → Complex → Complex → Complex
p1_of a b c d e =
    2 ·ᶜ c *ᶜ c *ᶜ c
    -ᶜ 9 ·ᶜ b *ᶜ c *ᶜ d
    +ᶜ 27 ·ᶜ a *ᶜ d *ᶜ d
    +ᶜ 27 ·ᶜ b *ᶜ b *ᶜ e
    -ᶜ 72 ·ᶜ a *ᶜ c *ᶜ e

unfoldable pub q1_of : Complex → Complex → Complex → Complex → Complex → Complex
q1_of a b c d e = c *ᶜ c -ᶜ 3 ·ᶜ b *ᶜ d +ᶜ 12 ·ᶜ a *ᶜ e

unfoldable pub p2_of : Complex → Complex → Complex
p2_of p1 q1 = p1 +ᶜ sqrtᶜ (scaleᶜ q1 (neg (as_f64 4)) *ᶜ q1 *ᶜ q1 +ᶜ p1 *ᶜ p1)

unfoldable pub q2_of : Complex → Complex
q2_of p2 = cbrtᶜ (overᶜ p2 two)

unfoldable pub p3_of : Complex → Complex → Complex → Complex
p3_of a q1 q2 = q1 /ᶜ (3 ·ᶜ a *ᶜ q2) +ᶜ q2 /ᶜ (3 ·ᶜ a)

unfoldable pub p4_of : Complex → Complex → Complex → Complex → Complex
p4_of a b c p3 = sqrtᶜ (b *ᶜ b /ᶜ (4 ·ᶜ a *ᶜ a) -ᶜ 2 ·ᶜ c /ᶜ (3 ·ᶜ a) +ᶜ p3)

unfoldable pub p5_of : Complex → Complex → Complex → Complex → Complex
p5_of a b c p3 = b *ᶜ b /ᶜ (2 ·ᶜ a *ᶜ a) -ᶜ 4 ·ᶜ c /ᶜ (3 ·ᶜ a) -ᶜ p3

-- what stands over 4.0 * p4
unfoldable pub p6_over : Complex → Complex → Complex → Complex → Complex
p6_over a b c d = negᶜ (b *ᶜ b *ᶜ b) /ᶜ (a *ᶜ a *ᶜ a) +ᶜ 4 ·ᶜ b *ᶜ c /ᶜ (a *ᶜ a) -ᶜ 8 ·ᶜ d /ᶜ a

unfoldable pub p6_of : Complex → Complex → Complex → Complex → Complex → Complex
p6_of a b c d p4 = p6_over a b c d /ᶜ (4 ·ᶜ p4)

-- -b / (4.0 * a)
unfoldable pub centre : Complex → Complex → Complex
centre a b = negᶜ b /ᶜ (4 ·ᶜ a)

-- (p5 - p6).sqrt() / 2.0
unfoldable pub minus_root : Complex → Complex → Complex
minus_root p5 p6 = overᶜ (sqrtᶜ (p5 -ᶜ p6)) two

-- (p5 + p6).sqrt() / 2.0
unfoldable pub plus_root : Complex → Complex → Complex
plus_root p5 p6 = overᶜ (sqrtᶜ (p5 +ᶜ p6)) two

unfoldable pub four_roots : Complex → Complex → Complex → Complex → Complex → List Complex
four_roots a b p4 p5 p6 =
    (centre a b -ᶜ overᶜ p4 two -ᶜ minus_root p5 p6)
    ∷ (centre a b -ᶜ overᶜ p4 two +ᶜ minus_root p5 p6)
    ∷ (centre a b +ᶜ overᶜ p4 two -ᶜ plus_root p5 p6)
    ∷ (centre a b +ᶜ overᶜ p4 two +ᶜ plus_root p5 p6)
    ∷ []

-- the formula, for an a that counts as more than zero
unfoldable pub formula : Complex → Complex → Complex → Complex → Complex → List Complex
formula a b c d e =
    let p1 = p1_of a b c d e in
    let q1 = q1_of a b c d e in
    let p2 = p2_of p1 q1 in
    let q2 = q2_of p2 in
    let p3 = p3_of a q1 q2 in
    let p4 = p4_of a b c p3 in
    let p5 = p5_of a b c p3 in
    let p6 = p6_of a b c d p4 in
    four_roots a b p4 p5 p6

unfoldable pub solve_quartic_roots : Quartic → List Complex
solve_quartic_roots p =
    let a = p.a in
    let b = p.b in
    let c = p.c in
    let d = p.d in
    let e = p.e in
    cond (lt (absᶜ a) epsilon) (solve_cubic_roots (record { a = b; b = c; c = d; d = e })) (formula a b c d e)
