use Rattle.std.proofs.Common.{◌∙◌, ap, List, map}
use Rattle.search_definition.specs.Dip.{Point}
use Rattle.search_steps.specs.EdgeSteps.{row_way}
use Rattle.step_refine.specs.State.{point_of}
use Rattle.step_pairs.specs.Landed.{landed}
use Rattle.step_edge.proofs.EdgeLaws.{takes_none, takes_on}
use Rattle.step_edge.proofs.edge.take_way.Goals as goal

pub returns-then-j-lt8 : goal.returns-then-j-lt8
returns-then-j-lt8 g c =
    let a = c.args in
    λ o i. takes_on g.row.N o a.found.now.items (point_of a.p) (point_of a.e) a.j (map point_of a.row.now.items) c.if-j-lt8.true

pub returns : goal.returns
returns g c =
    let a = c.args in
    let p = point_of a.p in
    λ o i.
    takes_none g.row.N o a.found.now.items p (point_of a.e) a.j (map point_of a.row.now.items) c.if-j-lt8.false
    (c.row_way.ensures o i p ∙ ap (λ (l : List Point). landed g.row.N a.found.now.items (row_way o p l)) c.close_row.ensures.closed)
