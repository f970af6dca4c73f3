-- Each edge is the definition's, and the counts stay low by its bounds.
use Rattle.std.proofs.Common.{arith}
use Rattle.search_error.specs.Fixed.{branch_error}
use Rattle.search.specs.State.{points, state}
use Rattle.search.proofs.GridSteps.{edges_step, edges_end, few_edges}
use Rattle.search.proofs.grid.scan_edges.Goals as goal

pub edge_at-requires : goal.edge_at-requires
edge_at-requires c =
    let a = c.args in
    let few = few_edges (branch_error a.branch.now) a.branch.now.i (points a.row) a.n (state a.list.now) (state c.loop-k.list) _ c.loop-k.invariant in
    omega (arith, few, c.loop-k-test.true, c.requires)

pub loop-k-preserved : goal.loop-k-preserved
loop-k-preserved c =
    let a = c.args in
    edges_step (branch_error a.branch.now) a.branch.now.i (points a.row) a.n c.loop-k.k (state c.loop-k.list) c.loop-k.invariant c.loop-k-test.true c.edge_at.ensures

pub returns : goal.returns
returns c =
    let a = c.args in
    edges_end (branch_error a.branch.now) a.branch.now.i (points a.row) a.n c.loop-k.k (state c.loop-k.list) c.loop-k.invariant c.loop-k-test.false
