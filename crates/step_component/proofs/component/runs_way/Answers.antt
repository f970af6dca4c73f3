use Rattle.std.proofs.Common.{◌≡◌, refl, ◌∙◌, ap, suc, ◌+◌, ◌-◌, ℕ, arith}
use Rattle.search_definition.specs.Found.{component, grid}
use Rattle.search_steps.specs.ScanSteps.{scan_way}
use Rattle.search_steps.specs.ComponentSteps.{in_run, edges_way, runs_way}
use Rattle.step_pairs.specs.Landed.{landed}
use Rattle.step_pairs.proofs.LandedLaws.{part_asks, part_over}
use Rattle.search_pairs.specs.Row.{points}
use Rattle.step_scan.specs.State.{scan_of}
use Rattle.search_steps.specs.ScanSteps.{last_pair}
use Rattle.step_component.proofs.ComponentLaws.{run_there, runs_past}
use Rattle.step_component.proofs.component.runs_way.Goals as goal

pub returns-in-Some : goal.returns-in-Some
unfolding component
returns-in-Some g c =
    let a = c.args in
    let P = points a.grid in
    let s = c.loop-s.s in
    let m = c.run_length-m.result in
    let h = c.loop-s.found.items in
    λ r.
    part_asks g.row.N (scan_of (last_pair s m)) (in_run (a.n - (s + m)) s m) h (scan_way (grid a.i) P s m) (runs_way a.i P a.n (suc a.n - (s + m + 1)) (s + m + 1) 0) _
    (c.scan_way.ensures (grid a.i) (λ p. refl)) c.in-Some.is
    ∙ run_there a.i P a.n s m c.run_length-m.ensures c.loop-s-test.true g.row.N h
    ∙ c.loop-s.invariant

pub loop-s-preserved : goal.loop-s-preserved
unfolding component
loop-s-preserved g c =
    let a = c.args in
    let P = points a.grid in
    let s = c.loop-s.s in
    let m = c.run_length-m.result in
    let h = c.loop-s.found.items in
    part_over g.row.N (scan_of (last_pair s m)) (in_run (a.n - (s + m)) s m) h (scan_way (grid a.i) P s m) (runs_way a.i P a.n (suc a.n - (s + m + 1)) (s + m + 1) 0) _
    (c.scan_way.ensures (grid a.i) (λ p. refl)) c.in_default.is refl
    ∙ run_there a.i P a.n s m c.run_length-m.ensures c.loop-s-test.true g.row.N h
    ∙ c.loop-s.invariant

pub returns : goal.returns
returns g c =
    let a = c.args in
    let P = points a.grid in
    let h = c.loop-s.found.items in
    let z : a.n - 0 ≡ a.n = omega arith in
    λ r.
    c.edges_way.ensures a.i r g.row.N h
    ∙ ap (λ (k : ℕ). landed g.row.N h (edges_way a.i P a.n k 0)) z
    ∙ runs_past a.i P a.n c.loop-s.s g.row.N h (omega (arith, c.loop-s-test.false))
    ∙ c.loop-s.invariant
