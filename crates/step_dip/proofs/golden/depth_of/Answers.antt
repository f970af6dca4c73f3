-- `step_dip::golden::depth_of` meets its contract. Assumes nothing.
use Rattle.step_dip.proofs.GoldenLaws.{depth_finite, depth_infinite}
use Rattle.step_dip.proofs.golden.depth_of.Goals as goal

pub returns-then-is_finite : goal.returns-then-is_finite
returns-then-is_finite c = depth_finite c.args.sign c.args.y c.is_finite.ensures c.if-is_finite.true

pub returns : goal.returns
returns c = depth_infinite c.args.sign c.args.y c.is_finite.ensures c.if-is_finite.false c.infinity.ensures
