use Rattle.std.proofs.Common.{rules, ◌∙◌, ap}
use Rattle.search_definition.specs.Found.{grid, edge}
use Rattle.search_definition.specs.Search.{Gap}
use Rattle.search_steps.specs.EdgeSteps.{edge_angle}
use Rattle.search_steps.specs.ComponentSteps.{component_angle}
use Rattle.search_pairs.specs.Row.{points}
use Rattle.step_edge.specs.State.{edge_of}
use Rattle.step_component.proofs.ComponentLaws.{angle_from, handy_at}
use Rattle.step_component.proofs.component.component_angle.Goals as goal

pub edge_angle-requires : goal.edge_angle-requires
edge_angle-requires g c = (search rules, λ l. handy_at 0 (points c.args.grid) 0 c.args.row.now.items c.args.z _ c.in-InEdge.is (c.requires l 0))

pub returns-in-InRun : goal.returns-in-InRun
unfolding component_angle
returns-in-InRun g c =
    λ i n. angle_from i (points c.args.grid) n c.args.row.now.items c.args.z _ c.in-InRun.is (c.scan_angle.ensures (grid i))

pub returns-in-InEdge : goal.returns-in-InEdge
unfolding component_angle
returns-in-InEdge g c =
    let r = c.args.row.now.items in
    let k = c.in-InEdge.k in
    λ i n.
    angle_from i (points c.args.grid) n r c.args.z _ c.in-InEdge.is
    (c.edge_angle.ensures (edge i k) ∙ ap (λ (g : Gap). edge_angle (edge i k) g.inside (edge_of r c.in-InEdge.w)) (c.gap_at.ensures i n))
