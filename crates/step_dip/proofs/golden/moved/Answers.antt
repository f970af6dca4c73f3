-- `step_dip::golden::moved` meets its contract. Assumes nothing.
use Rattle.step_dip.proofs.GoldenLaws.{moved_left, moved_right}
use Rattle.search_dip.specs.Valley.{valley}
use Rattle.step_dip.proofs.golden.moved.Goals as goal

pub returns-then-v : goal.returns-then-v
returns-then-v c = moved_left (valley c.args.v) c.args.g c.if-v.true c.left_of-p.ensures

pub returns : goal.returns
returns c = moved_right (valley c.args.v) c.args.g c.if-v.false c.right_of-p.ensures
