-- Complex numbers, as document 01 fixes num-complex's operations on them. Every operation rounds. All stay shut for callers.
use Rattle.std.specs.Prelude.{cond, ◌||◌, Float}
use Rattle.std.specs.Float.{nan}
use Rattle.std.specs.Float.Ieee.{neg, lt, eq, is_nan}
use Rattle.float.specs.Num.{◌⊕◌, ◌⊖◌, ◌⊗◌, ◌⊘◌, as_f64, nought, one}
use Rattle.float.specs.Number.{abs}
use Rattle.float.specs.Root.{sqrt, cbrt}
use Rattle.float.specs.Sine.{sin, cos}
use Rattle.float.specs.Arctangent.{atan2}
use Rattle.complex.specs.declared.Complex.{Complex}

infixl 6 ◌+ᶜ◌
infixl 6 ◌-ᶜ◌
infixl 7 ◌*ᶜ◌
infixl 7 ◌/ᶜ◌
-- the sum, the difference and the negation, part by part
unfoldable pub ◌+ᶜ◌ : Complex → Complex → Complex
z +ᶜ w = record { re = z.re ⊕ w.re; im = z.im ⊕ w.im }

unfoldable pub ◌-ᶜ◌ : Complex → Complex → Complex
z -ᶜ w = record { re = z.re ⊖ w.re; im = z.im ⊖ w.im }

unfoldable pub negᶜ : Complex → Complex
negᶜ z = record { re = neg z.re; im = neg z.im }

-- "A real factor or divisor acts on each part"
unfoldable pub scaleᶜ : Complex → Float → Complex
scaleᶜ z s = record { re = z.re ⊗ s; im = z.im ⊗ s }

unfoldable pub overᶜ : Complex → Float → Complex
overᶜ z s = record { re = z.re ⊘ s; im = z.im ⊘ s }

-- "the product of (a, b) and (c, d) is (a × c - b × d, a × d + b × c)"
unfoldable pub ◌*ᶜ◌ : Complex → Complex → Complex
z *ᶜ w = record { re = z.re ⊗ w.re ⊖ z.im ⊗ w.im; im = z.re ⊗ w.im ⊕ z.im ⊗ w.re }

unfoldable pub conjugate : Complex → Complex
conjugate z = record { re = z.re; im = neg z.im }

-- "division multiplies by the conjugate and divides both parts by the sum of squares"
unfoldable pub ◌/ᶜ◌ : Complex → Complex → Complex
unfolding ◌*ᶜ◌ overᶜ conjugate
z /ᶜ w = overᶜ (z *ᶜ conjugate w) (w.re ⊗ w.re ⊕ w.im ⊗ w.im)

-- a real number
abbrev pub real : Float → Complex
real x = record { re = x; im = nought }

-- "a real divided by a complex is first given imaginary part 0"
unfoldable pub real_overᶜ : Float → Complex → Complex
unfolding ◌/ᶜ◌
real_overᶜ s z = real s /ᶜ z

-- "Modulus: larger size × sqrt(1 + (smaller / larger)^2), 0 for zero, NaN if a part is."
unfoldable pub modulus : Float → Float → Float
modulus larger smaller = let q = smaller ⊘ larger in cond (eq larger nought) nought (larger ⊗ sqrt (one ⊕ q ⊗ q))

unfoldable pub absᶜ : Complex → Float
unfolding modulus
absᶜ z =
    cond (is_nan z.re || is_nan z.im) nan
    (let a = abs z.re in
    let b = abs z.im in
    cond (lt a b) (modulus b a) (modulus a b))

-- "Square and cube root take the root of the modulus and a half or third of the angle, atan2(im, re) divided by 2 or 3; the parts are that root times its cosine and sine."
unfoldable pub polar : Float → Float → Complex
polar r θ = record { re = r ⊗ cos θ; im = r ⊗ sin θ }

unfoldable pub sqrtᶜ : Complex → Complex
unfolding polar absᶜ
sqrtᶜ z = polar (sqrt (absᶜ z)) (atan2 z.im z.re ⊘ as_f64 2)

unfoldable pub cbrtᶜ : Complex → Complex
unfolding polar absᶜ
cbrtᶜ z = polar (cbrt (absᶜ z)) (atan2 z.im z.re ⊘ as_f64 3)
