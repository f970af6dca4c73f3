-- Both sides are the same operations.
use mathlib.Core.Path.{refl}
use Rattle.complex.specs.Complex.{negᶜ}
use Rattle.complex.proofs.ComplexNeg.neg.Goals as goal

pub returns : goal.returns
unfolding negᶜ
returns c = refl
