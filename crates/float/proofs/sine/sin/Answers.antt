-- By the quarter of the angle.
use Rattle.float.proofs.Picked.{sin_first, sin_second, sin_third, sin_last}
use Rattle.float.proofs.sine.sin.Goals as goal

pub returns-in-0 : goal.returns-in-0
returns-in-0 c = search sin_first

pub returns-in-1 : goal.returns-in-1
returns-in-1 c = search sin_second

pub returns-in-2 : goal.returns-in-2
returns-in-2 c = search sin_third

pub returns-in_default : goal.returns-in_default
returns-in_default c = search sin_last
