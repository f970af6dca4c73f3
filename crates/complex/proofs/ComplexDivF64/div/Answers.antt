-- Both sides are the same operations.
use mathlib.Core.Path.{refl}
use Rattle.complex.specs.Complex.{overᶜ}
use Rattle.complex.proofs.ComplexDivF64.div.Goals as goal

pub returns : goal.returns
unfolding overᶜ
returns c = refl
