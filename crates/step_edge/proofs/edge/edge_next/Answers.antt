use Rattle.std.proofs.Common.{◌≡◌, rules}
use Rattle.std.specs.Option.{option_map}
use Rattle.step_refine.specs.State.{point_of}
use Rattle.step_edge.specs.State.{gap}
use Rattle.step_edge.specs.declared.edge.Edge.TheVariants.{Halving, InRow}
use Rattle.step_edge.proofs.EdgeLaws.{step_from, halving_steps, row_steps}
use Rattle.step_edge.proofs.edge.edge_next.Goals as goal

pub returns-in-Halving : goal.returns-in-Halving
returns-in-Halving g c =
    let p = point_of c.args.p in
    let h = c.args.found.now.items in
    λ o i.
    step_from o p c.args.row.now.items c.args.z (Halving c.in-Halving.k c.in-Halving.g) c.in-Halving.is g.row.N h c.args.y
    (halving_steps g.row.N o h p c.in-Halving.k (gap c.in-Halving.g) c.args.y c.mid.ensures c.halved.ensures (c.halve_way.ensures o p g.row.N h))

pub returns-in-InRow : goal.returns-in-InRow
returns-in-InRow g c =
    let p = point_of c.args.p in
    let r = c.args.row.now.items in
    let h = c.args.found.now.items in
    let m : c.map.result ≡ option_map InRow c.scan_next.result = search rules in
    λ o i.
    step_from o p r c.args.z (InRow c.in-InRow.s) c.in-InRow.is g.row.N h c.args.y
    (row_steps r c.as_slice.result.now c.whole-run.result.from c.whole-run.result.count c.as_slice.ensures.value c.whole-run.ensures.from c.whole-run.ensures.count g.row.N o p h c.scan_next.new.found.items c.scan_next.result c.map.result m c.in-InRow.s c.args.y (c.scan_next.ensures o i))
