-- The runs and then the edges are the definition's component.
use Rattle.std.proofs.Common.{◌∙◌, arith}
use Rattle.search_error.specs.Fixed.{branch_error}
use Rattle.search.specs.State.{column, state}
use Rattle.search_pairs.proofs.States.{after_nothing}
use Rattle.search.proofs.GridSteps.{component_done, few_runs}
use Rattle.search.proofs.grid.search_component.Goals as goal

pub scan_edges-requires : goal.scan_edges-requires
scan_edges-requires c =
    let a = c.args in
    let i = a.branch.now.i in
    let few = few_runs (branch_error a.branch.now) i (column a.samples.now i) a.n (state a.list.now) _ _ (after_nothing _ ∙ c.scan_runs.ensures) in
    omega (arith, few, c.requires)

pub returns : goal.returns
returns c =
    let a = c.args in
    let i = a.branch.now.i in
    component_done (branch_error a.branch.now) i (column a.samples.now i) a.n (state a.list.now) c.scan_runs.ensures c.scan_edges.ensures
