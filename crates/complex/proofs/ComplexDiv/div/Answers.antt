-- Both sides are the same operations.
use mathlib.Core.Path.{refl}
use Rattle.complex.specs.Complex.{◌/ᶜ◌, ◌*ᶜ◌, overᶜ, conjugate}
use Rattle.complex.proofs.ComplexDiv.div.Goals as goal

pub returns : goal.returns
unfolding ◌/ᶜ◌ ◌*ᶜ◌ overᶜ conjugate
returns c = refl
