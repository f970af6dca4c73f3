use Rattle.std.proofs.Common.{ap}
use Rattle.search_definition.specs.Dip.{Valley}
use Rattle.search_refine.specs.Counted.{Counted}
use Rattle.search_dip.specs.Valley.{valley}
use Rattle.step_refine.specs.State.{point_of}
use Rattle.step_dip.proofs.DipLaws.{sinks_below, sinks_on}
use Rattle.step_dip.proofs.dip.sunk.Goals as goal

pub returns-then-w : goal.returns-then-w
returns-then-w g c =
    let a = c.args in
    λ o e. sinks_below g.row.N o a.found.now.items (point_of a.p) (point_of a.q) (valley a.v) a.left a.g c.moved.ensures (ap (λ (k : Counted Valley). k.value) c.best-w.ensures) c.if-w.true (c.crossed_way.ensures o e)

pub returns : goal.returns
returns g c =
    let a = c.args in
    λ o e. sinks_on g.row.N o a.found.now.items (point_of a.p) (point_of a.q) (valley a.v) a.left a.g c.moved.ensures (ap (λ (k : Counted Valley). k.value) c.best-w.ensures) c.if-w.false (c.sink_way.ensures o e)
