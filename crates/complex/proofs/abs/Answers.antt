-- A part that is no number; then by which part is the larger.
use mathlib.Core.Path.{◌≡◌, sym, ◌∙◌}
use mathlib.Core.Bool.{Bool, true, false}
use lib.Ieee.{Float, lt, is_nan}
use Rattle.float.specs.Number.{abs}
use Rattle.float.proofs.Nan.{is_the_nan}
use Rattle.complex.specs.Complex.{modulus, absᶜ}
use Rattle.complex.specs.declared.Complex.{Complex}
use Rattle.complex.proofs.abs.Goals as goal

module _ (z : Complex) {t : Bool} (e : t ≡ is_nan z.re) where
  first-nan : t ≡ true → z.re ≡ absᶜ z
  unfolding absᶜ is_nan
  first-nan h = let n = is_the_nan z.re (sym e ∙ h) in cc

  module _ (h : t ≡ false) {u : Bool} (f : u ≡ is_nan z.im) where
    second-nan : u ≡ true → z.im ≡ absᶜ z
    unfolding absᶜ is_nan
    second-nan k = let n = is_the_nan z.im (sym f ∙ k) in cc

    module _ (k : u ≡ false) {a b r : Float} (e-a : a ≡ abs z.re) (e-b : b ≡ abs z.im) where
      by-im : lt a b ≡ true → r ≡ modulus b a → r ≡ absᶜ z
      unfolding absᶜ
      by-im p q = cc

      by-re : lt a b ≡ false → r ≡ modulus a b → r ≡ absᶜ z
      unfolding absᶜ
      by-re p q = cc

pub returns-then-is_nan : goal.returns-then-is_nan
returns-then-is_nan c = search first-nan

pub returns-then-is_nan-2 : goal.returns-then-is_nan-2
returns-then-is_nan-2 c = search second-nan

pub returns-then-a-b : goal.returns-then-a-b
returns-then-a-b c = search by-im

pub returns : goal.returns
returns c = search by-re
