-- `cc` joins the equations of the four calls.
use lib.Ieee.{of_int, of_bits}
use Rattle.complex.specs.Complex.{cbrtᶜ}
use Rattle.complex.proofs.cbrt.Goals as goal

pub returns : goal.returns
unfolding cbrtᶜ of_int of_bits
returns c = cc
