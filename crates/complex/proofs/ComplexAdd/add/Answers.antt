-- Both sides are the same operations.
use mathlib.Core.Path.{refl}
use Rattle.complex.specs.Complex.{◌+ᶜ◌}
use Rattle.complex.proofs.ComplexAdd.add.Goals as goal

pub returns : goal.returns
unfolding ◌+ᶜ◌
returns c = refl
