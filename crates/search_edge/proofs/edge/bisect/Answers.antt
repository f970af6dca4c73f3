-- Each bisection is the definition's.
use Rattle.std.proofs.Common.{arith}
use Rattle.search_definition.specs.Search.{bisect}
use Rattle.search_error.specs.Fixed.{branch_error}
use Rattle.search_refine.proofs.Count.{counted_total}
use Rattle.search_edge.specs.State.{gap}
use Rattle.search_edge.proofs.EdgeSteps.{bisect_step, bisect_end}
use Rattle.search_edge.proofs.edge.bisect.Goals as goal

pub loop-k-init : goal.loop-k-init
loop-k-init c = counted_total (bisect (branch_error c.args.branch.now) 16 (gap c.args.g))

pub loop-k-preserved : goal.loop-k-preserved
loop-k-preserved c =
    bisect_step (branch_error c.args.branch.now) c.loop-k.k (gap c.loop-k.h) _ (omega arith) c.loop-k.invariant c.halved-h.ensures

pub returns : goal.returns
returns c = bisect_end (branch_error c.args.branch.now) c.loop-k.k (gap c.loop-k.h) _ (omega arith) c.loop-k.invariant
