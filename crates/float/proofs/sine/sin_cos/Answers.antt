-- By the quarter of the angle.
use Rattle.float.proofs.Picked.{both_first, both_second, both_third, both_last}
use Rattle.float.proofs.sine.sin_cos.Goals as goal

pub returns-in-0 : goal.returns-in-0
returns-in-0 c = search both_first

pub returns-in-1 : goal.returns-in-1
returns-in-1 c = search both_second

pub returns-in-2 : goal.returns-in-2
returns-in-2 c = search both_third

pub returns-in_default : goal.returns-in_default
returns-in_default c = search both_last
