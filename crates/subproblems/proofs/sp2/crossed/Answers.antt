-- Four calls, whose laws hold whatever the value outside.
use Rattle.float.specs.Num.{nought}
use Rattle.subproblems.specs.Subproblem2.{crossed}
use Rattle.subproblems.proofs.sp2.crossed.Goals as goal

pub returns : goal.returns
unfolding crossed
returns c = cc (c.expect_two-t1.ensures nought, c.expect_two-t2.ensures nought)
