use Rattle.step_search.specs.Holds.{memory}
use Rattle.step_search.proofs.HoldsLaws.{component_goes}
use Rattle.step_search.proofs.component_next.Goals as goal

pub returns : goal.returns
returns g c =
    let a = c.args in
    let m = memory a.samples.now.items a.row.now.items a.found.now.items in
    λ s h.
    component_goes a.n g.row.N s a.e a.p m h c.search_next.new.row.items c.search_next.new.found.items c.search_next.result c.arrived.result c.as_slice.result.now c.as_slice.ensures.value c.search_next.ensures
    (c.arrived.ensures a.n a.samples.now.items c.search_next.new.row.items)
