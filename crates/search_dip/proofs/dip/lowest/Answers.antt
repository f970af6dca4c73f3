-- Each way out of the loop, and the way on, is a step of the definition.
use Rattle.std.proofs.Common.{ap, arith}
use Rattle.search_error.specs.Fixed.{branch_error}
use Rattle.search_refine.specs.Counted.{evals_of}
use Rattle.search_dip.specs.Valley.{valley}
use Rattle.search_dip.proofs.DipSteps.{lowest_starts, lowest_goes, lowest_leaves, lowest_ends}
use Rattle.search_dip.proofs.dip.lowest.Goals as goal

pub loop-k-init : goal.loop-k-init
loop-k-init c = (ap evals_of c.opened-v.ensures, lowest_starts _ _ _ _ c.opened-v.ensures)

pub returns-then-v : goal.returns-then-v
returns-then-v c =
    let a = c.args in
    lowest_leaves (branch_error a.branch.now) a.sign a.a a.b (valley c.loop-k.v) c.loop-k.v.evals c.loop-k.k c.loop-k.invariant.1 c.moved.ensures c.best-v.ensures c.loop-k-test.true c.if-v.true

pub loop-k-preserved : goal.loop-k-preserved
loop-k-preserved c =
    let a = c.args in (
      omega (arith, c.loop-k.invariant.0, ap evals_of c.moved.ensures, ap evals_of c.best-v.ensures),
      lowest_goes (branch_error a.branch.now) a.sign a.a a.b (valley c.loop-k.v) c.loop-k.v.evals c.loop-k.k c.loop-k.invariant.1 c.moved.ensures c.best-v.ensures c.loop-k-test.true c.if-v.false,
    )

pub returns : goal.returns
returns c = lowest_ends _ _ _ _ (valley c.loop-k.v) c.loop-k.v.evals c.loop-k.k c.loop-k.invariant.1 c.loop-k-test.false
