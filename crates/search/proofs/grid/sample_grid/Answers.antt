-- The angle is the grid's, and the components are the error's there.
use Rattle.std.proofs.Common.{arith}
use Rattle.search_error.specs.Fixed.{error_at}
use Rattle.search.proofs.GridSteps.{gridded_next, sample_is}
use Rattle.search.proofs.grid.sample_grid.Goals as goal

pub loop-k-preserved : goal.loop-k-preserved
loop-k-preserved c =
    let a = c.args in
    gridded_next (error_at a.fixed.now) a.n c.loop-k.samples c.loop-k.k (record { x = c.angle-x.result; y = c.error.result }) (sample_is a.fixed.now a.n c.loop-k.k c.angle-x.ensures c.error.ensures) (omega (arith, c.requires, c.loop-k-test.true)) c.loop-k.invariant
