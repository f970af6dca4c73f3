use Rattle.step_refine.specs.State.{point_of}
use Rattle.std.proofs.Common.{map}
use Rattle.step_edge.proofs.EdgeLaws.{sample_goes}
use Rattle.step_edge.proofs.edge.take_next.Goals as goal

pub returns : goal.returns
returns g c =
    let a = c.args in
    λ o i. sample_goes g.row.N o a.found.now.items (point_of a.p) (point_of a.e) a.j (map point_of a.row.now.items) a.y c.requires.1 _ (c.take_way.ensures o i) c.sub_angle-x.ensures c.keep_finite.ensures.kept
