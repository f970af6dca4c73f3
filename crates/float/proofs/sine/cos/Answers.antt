-- By the quarter of the angle.
use Rattle.float.proofs.Picked.{cos_first, cos_second, cos_third, cos_last}
use Rattle.float.proofs.sine.cos.Goals as goal

pub returns-in-0 : goal.returns-in-0
returns-in-0 c = search cos_first

pub returns-in-1 : goal.returns-in-1
returns-in-1 c = search cos_second

pub returns-in-2 : goal.returns-in-2
returns-in-2 c = search cos_third

pub returns-in_default : goal.returns-in_default
returns-in_default c = search cos_last
