-- Both sides are the same operations.
use mathlib.Core.Path.{refl}
use Rattle.complex.specs.Complex.{scaleᶜ}
use Rattle.complex.proofs.ComplexMulF64.mul.Goals as goal

pub returns : goal.returns
unfolding scaleᶜ
returns c = refl
