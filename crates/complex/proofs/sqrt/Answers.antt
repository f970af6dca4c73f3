-- `cc` joins the equations of the four calls.
use lib.Ieee.{of_int, of_bits}
use Rattle.complex.specs.Complex.{sqrtᶜ}
use Rattle.complex.proofs.sqrt.Goals as goal

pub returns : goal.returns
unfolding sqrtᶜ of_int of_bits
returns c = cc
