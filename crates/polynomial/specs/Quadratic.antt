-- solve_quadratic_roots of subproblems/auxiliary.rs, by its names. Document 01: "Roots fall to the lower degree exactly if |a| < 1e-12": of a bx + c too, in |b|.
use Rattle.std.specs.Prelude.{cond, List, [], ◌∷◌}
use Rattle.std.specs.Float.Ieee.{lt}
use Rattle.complex.specs.Complex.{◌+ᶜ◌, ◌-ᶜ◌, ◌*ᶜ◌, ◌/ᶜ◌, negᶜ, absᶜ, sqrtᶜ}
use Rattle.complex.specs.declared.Complex.{Complex}
use Rattle.polynomial.specs.Const.{epsilon}
use Rattle.polynomial.specs.Roots.{◌·ᶜ◌}
use Rattle.polynomial.specs.declared.Quadratic.{Quadratic}

-- [(-b + p) / (2.0 * a), (-b - p) / (2.0 * a)]
abbrev pub both : Complex → Complex → Complex → List Complex
both a b p = ((negᶜ b +ᶜ p) /ᶜ (2 ·ᶜ a)) ∷ ((negᶜ b -ᶜ p) /ᶜ (2 ·ᶜ a)) ∷ []

unfoldable pub solve_quadratic_roots : Quadratic → List Complex
solve_quadratic_roots p =
    let a = p.a in
    let b = p.b in
    let c = p.c in
    cond (lt (absᶜ a) epsilon)
    (cond (lt (absᶜ b) epsilon) [] ((negᶜ c /ᶜ b) ∷ []))
    (let p = sqrtᶜ (b *ᶜ b -ᶜ 4 ·ᶜ a *ᶜ c) in both a b p)
