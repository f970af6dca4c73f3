-- One call.
use Rattle.complex.specs.Complex.{real_overᶜ}
use Rattle.complex.proofs.F64DivComplex.div.Goals as goal

pub returns : goal.returns
unfolding real_overᶜ
returns c = cc
