use Rattle.search_dip.specs.Valley.{valley}
use Rattle.step_refine.specs.State.{point_of}
use Rattle.step_dip.proofs.DipLaws.{no_turn, turns}
use Rattle.step_dip.proofs.dip.sink_way.Goals as goal

pub returns-then-left-eq0 : goal.returns-then-left-eq0
returns-then-left-eq0 g c =
    let a = c.args in
    λ o e. no_turn g.row.N o a.found.now.items (point_of a.p) (point_of a.q) (valley a.v) a.left c.if-left-eq0.true (c.crossed_way.ensures o e)

pub returns : goal.returns
returns g c =
    let a = c.args in
    λ o e. turns g.row.N o a.found.now.items (point_of a.p) (point_of a.q) (valley a.v) a.left c.if-left-eq0.false
