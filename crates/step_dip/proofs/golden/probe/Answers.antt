-- `step_dip::golden::probe` meets its contract. Assumes nothing.
use Rattle.step_dip.proofs.GoldenLaws.{probe_left, probe_right}
use Rattle.search_dip.specs.Valley.{valley}
use Rattle.float.specs.Num.{nought}
use Rattle.step_dip.proofs.golden.probe.Goals as goal

pub returns-then-v : goal.returns-then-v
returns-then-v c = probe_left (valley c.args.v) nought c.if-v.true c.left_of.ensures

pub returns : goal.returns
returns c = probe_right (valley c.args.v) nought c.if-v.false c.right_of.ensures
