-- `step_dip::golden::opened` meets its contract. Assumes nothing.
use Rattle.step_dip.proofs.GoldenLaws.{opened_is}
use Rattle.step_dip.proofs.golden.opened.Goals as goal

pub returns : goal.returns
returns c = opened_is _ _ _ _ c.left_of-x1.ensures c.right_of-x2.ensures c.pick-best_x.ensures c.pick-best_g.ensures
