use Rattle.std.proofs.Common.{◌≡◌, refl, ◌∙◌, ap, ap₂, suc, ◌+◌, ◌-◌, ℕ, add-one, arith}
use Rattle.search_definition.specs.Found.{component, grid, edge}
use Rattle.search_definition.specs.Search.{Gap}
use Rattle.search_steps.specs.ScanSteps.{scan_next}
use Rattle.search_steps.specs.EdgeSteps.{edge_next}
use Rattle.search_steps.specs.ComponentSteps.{in_run, in_edge, gap_at, edges_way, runs_way, component_next}
use Rattle.step_pairs.specs.Landed.{landed}
use Rattle.step_pairs.proofs.LandedLaws.{part_asks, part_over}
use Rattle.search_pairs.specs.Row.{points}
use Rattle.step_scan.specs.State.{scan_of, last_of}
use Rattle.step_edge.specs.State.{edge_of}
use Rattle.step_component.specs.declared.component.Component.TheVariants.{InRun, InEdge}
use Rattle.step_component.proofs.ComponentLaws.{step_from}
use Rattle.step_component.proofs.component.component_next.Goals as goal

pub returns-in-Some : goal.returns-in-Some
unfolding component component_next
returns-in-Some g c =
    let a = c.args in
    let P = points a.grid in
    let u = c.in-InRun.run' in
    let w = c.in-InRun.w in
    let h = a.found.now.items in
    step_from a.i P a.n a.row.now.items a.z (InRun u w) c.in-InRun.is g.row.N h a.y
    (part_asks g.row.N (scan_of (last_of u)) (in_run (a.n - (u.from + u.count)) u.from u.count) h (scan_next (grid a.i) P u.from (last_of u) (scan_of (last_of u) w) a.y) (runs_way a.i P a.n (a.n - (u.from + u.count)) (suc (u.from + u.count)) 0) _
    (c.scan_next.ensures (grid a.i) (λ p. refl)) c.in-Some.is)

pub returns-in-None : goal.returns-in-None
unfolding component component_next
returns-in-None g c =
    let a = c.args in
    let P = points a.grid in
    let u = c.in-InRun.run' in
    let w = c.in-InRun.w in
    let h = a.found.now.items in
    let e : suc a.n - (u.from + u.count + 1) ≡ a.n - (u.from + u.count) = omega arith in
    step_from a.i P a.n a.row.now.items a.z (InRun u w) c.in-InRun.is g.row.N h a.y
    (part_over g.row.N (scan_of (last_of u)) (in_run (a.n - (u.from + u.count)) u.from u.count) h (scan_next (grid a.i) P u.from (last_of u) (scan_of (last_of u) w) a.y) (runs_way a.i P a.n (a.n - (u.from + u.count)) (suc (u.from + u.count)) 0) _
    (c.scan_next.ensures (grid a.i) (λ p. refl)) c.in-None.is
    (c.runs_way.ensures a.row.now.items ∙ ap₂ (λ (k l : ℕ). landed g.row.N c.scan_next.new.found.items (runs_way a.i P a.n k l 0)) e (add-one (u.from + u.count))))

pub returns-in-Some-edge_next : goal.returns-in-Some-edge_next
unfolding component component_next
returns-in-Some-edge_next g c =
    let a = c.args in
    let P = points a.grid in
    let k = c.in-InEdge.k in
    let w = edge_of a.row.now.items c.in-InEdge.w in
    let h = a.found.now.items in
    step_from a.i P a.n a.row.now.items a.z (InEdge k c.in-InEdge.w) c.in-InEdge.is g.row.N h a.y
    (part_asks g.row.N (edge_of c.edge_next.new.row.items) (in_edge (a.n - suc k) k) h (edge_next (edge a.i k) (gap_at a.i P a.n k).inside w a.y) (edges_way a.i P a.n (a.n - suc k) (suc k)) _
    (c.edge_next.ensures (edge a.i k) (λ p. refl) ∙ ap (λ (z : Gap). landed g.row.N h (edge_next (edge a.i k) z.inside w a.y)) (c.gap_at.ensures a.i a.n)) c.in-Some-edge_next.is)

pub returns-in-None-edge_next : goal.returns-in-None-edge_next
unfolding component component_next
returns-in-None-edge_next g c =
    let a = c.args in
    let P = points a.grid in
    let k = c.in-InEdge.k in
    let w = edge_of a.row.now.items c.in-InEdge.w in
    let h = a.found.now.items in
    step_from a.i P a.n a.row.now.items a.z (InEdge k c.in-InEdge.w) c.in-InEdge.is g.row.N h a.y
    (part_over g.row.N (edge_of c.edge_next.new.row.items) (in_edge (a.n - suc k) k) h (edge_next (edge a.i k) (gap_at a.i P a.n k).inside w a.y) (edges_way a.i P a.n (a.n - suc k) (suc k)) _
    (c.edge_next.ensures (edge a.i k) (λ p. refl) ∙ ap (λ (z : Gap). landed g.row.N h (edge_next (edge a.i k) z.inside w a.y)) (c.gap_at.ensures a.i a.n)) c.in-None-edge_next.is
    (c.edges_way.ensures a.i c.edge_next.new.row.items g.row.N c.edge_next.new.found.items ∙ ap (λ (z : ℕ). landed g.row.N c.edge_next.new.found.items (edges_way a.i P a.n (a.n - z) z)) (add-one k)))
