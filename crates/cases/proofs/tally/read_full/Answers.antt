-- What was read more stands behind what was read before.
use Rattle.cases.proofs.Reading.{read_within, read_goes}
use Rattle.cases.proofs.tally.read_full.Goals as goal

pub loop-done-preserved : goal.loop-done-preserved
loop-done-preserved g c = (read_within _ _ _ c.loop-done.invariant.0 c.read.auto.buf _ c.in-Ok.ensures.bound.0, read_goes _ _ _ c.loop-done.invariant.0 c.read.auto.buf _ _ _ c.loop-done.invariant.1 _ c.in-Ok.ensures.bytes.0)
