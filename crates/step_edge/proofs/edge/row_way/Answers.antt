use Rattle.std.proofs.Common.{◌≡◌, rules}
use Rattle.std.specs.Option.{option_map}
use Rattle.step_edge.specs.declared.edge.Edge.TheVariants.{InRow}
use Rattle.step_edge.proofs.EdgeLaws.{row_scans}
use Rattle.step_edge.proofs.edge.row_way.Goals as goal

pub returns : goal.returns
returns g c =
    let m : c.map.result ≡ option_map InRow c.scan_way.result = search rules in
    λ o i p.
    row_scans c.args.row.now.items c.as_slice.result.now c.whole.result.from c.whole.result.count c.as_slice.ensures.value c.whole.ensures.from c.whole.ensures.count g.row.N o p c.args.found.now.items c.scan_way.new.found.items c.scan_way.result c.map.result m
    (c.scan_way.ensures o i)
