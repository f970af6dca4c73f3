-- Roots of polynomials with complex coefficients, as lists.
use Rattle.std.specs.Prelude.{ℕ, cond, List, [], ◌∷◌, Float}
use Rattle.std.specs.Float.Ieee.{lt}
use Rattle.float.specs.Num.{as_f64, nought}
use Rattle.float.specs.Number.{abs}
use Rattle.complex.specs.Complex.{scaleᶜ}
use Rattle.complex.specs.declared.Complex.{Complex}
use Rattle.polynomial.specs.declared.Quartic.{Quartic}
use Rattle.polynomial.specs.declared.Vector5.{Vector5}

infixl 7 ◌·ᶜ◌
-- a whole factor, as the Rust writes it: 27 ·ᶜ z is 27.0 * z
abbrev pub ◌·ᶜ◌ : ℕ → Complex → Complex
k ·ᶜ z = scaleᶜ z (as_f64 k)

-- Complex::from_real
abbrev pub from_real : Float → Complex
from_real x = record { re = x; im = nought }

-- `.filter(|z| z.im.abs() < epsilon).map(|z| z.re)`
unfoldable pub real_parts : Float → List Complex → List Float
real_parts epsilon [] = []
real_parts epsilon (z ∷ l) =
    cond (lt (abs z.im) epsilon) (z.re ∷ real_parts epsilon l) (real_parts epsilon l)

-- the polynomial with these real coefficients, from the leading one on
abbrev pub real_quartic : Vector5 → Quartic
real_quartic v =
    record {
      a = from_real v.a;
      b = from_real v.b;
      c = from_real v.c;
      d = from_real v.d;
      e = from_real v.e;
    }
