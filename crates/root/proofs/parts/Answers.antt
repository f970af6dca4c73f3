-- A subnormal value is shifted until its leading digit is at the 53rd place.
use Rattle.root.proofs.Decode.{subnormal}
use Rattle.root.proofs.parts.Goals as goal

pub returns : goal.returns
returns c = subnormal _ _ c.requires.0 c.if-e-gt0.false c.from.ensures
