-- `lines_of`: the first i lines are written.
use Rattle.std.proofs.Common.{arith, add-one}
use Rattle.text.specs.Lists.{lines_of}
use Rattle.text.proofs.Laws.{both, nothing}
use Rattle.text.proofs.lists.lines_of.Goals as goal

pub loop-i-init : goal.loop-i-init
unfolding lines_of
loop-i-init c = record { written = nothing _; long = omega arith }

pub loop-i-preserved : goal.loop-i-preserved
unfolding lines_of
loop-i-preserved c = record {
  written = rw (add-one c.loop-i.i) (both _ _ _ c.loop-i.invariant.written c.line_at.ensures.items);
  long = omega arith;
}
