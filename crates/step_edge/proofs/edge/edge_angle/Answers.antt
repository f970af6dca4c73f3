use Rattle.search_steps.specs.EdgeSteps.{edge_angle, sub_angle}
use Rattle.step_refine.specs.State.{point_of}
use Rattle.step_edge.proofs.EdgeLaws.{angle_from, row_asks}
use Rattle.step_edge.proofs.edge.edge_angle.Goals as goal

pub returns-in-Halving : goal.returns-in-Halving
unfolding edge_angle
returns-in-Halving g c = λ o. angle_from o (point_of c.args.p) c.args.row.now.items c.args.z _ c.in-Halving.is c.mid.ensures

pub returns-in-Taking : goal.returns-in-Taking
unfolding edge_angle sub_angle
returns-in-Taking g c = λ o. angle_from o (point_of c.args.p) c.args.row.now.items c.args.z _ c.in-Taking.is c.sub_angle.ensures

pub returns-in-InRow : goal.returns-in-InRow
returns-in-InRow g c =
    let p = point_of c.args.p in
    let r = c.args.row.now.items in
    λ o.
    angle_from o p r c.args.z _ c.in-InRow.is
    (row_asks r c.as_slice.result.now c.whole.result.from c.whole.result.count c.as_slice.ensures.value c.whole.ensures.from c.whole.ensures.count o p c.in-InRow.s (c.scan_angle.ensures o))
