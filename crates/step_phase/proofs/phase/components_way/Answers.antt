use Rattle.std.proofs.Common.{[], refl, ◌∙◌, ap, ℕ, ◌+◌, ◌-◌}
use Rattle.search_definition.specs.Dip.{Point}
use Rattle.search_steps.specs.ComponentSteps.{component_way}
use Rattle.search_steps.specs.Steps.{taken_at, searching, components_way}
use Rattle.step_pairs.specs.Landed.{landed}
use Rattle.step_pairs.proofs.LandedLaws.{part_asks, part_over}
use Rattle.step_scan.specs.State.{samples_of}
use Rattle.step_component.specs.State.{component_of}
use Rattle.step_phase.proofs.PhaseLaws.{next_component, no_component}
use Rattle.step_phase.proofs.phase.components_way.Goals as goal

pub returns-in-Some : goal.returns-in-Some
returns-in-Some g c =
    let n = c.args.n in
    let S = samples_of c.args.samples.now in
    let k = c.loop-k.k in
    let h = c.loop-k.found.items in
    λ r.
    part_asks g.row.N (component_of n r) (searching (3 - k) k) h (component_way k (taken_at S k) n) (components_way n S (4 - (k + 1)) (k + 1)) _ (c.component_way.ensures r ∙ ap (λ (P : ℕ → Point). landed g.row.N h (component_way k P n)) c.grid.ensures) c.in-Some.is
    ∙ next_component n g.row.N h S k c.loop-k-test.true
    ∙ c.loop-k.invariant

pub loop-k-preserved : goal.loop-k-preserved
loop-k-preserved g c =
    let n = c.args.n in
    let S = samples_of c.args.samples.now in
    let k = c.loop-k.k in
    let h = c.loop-k.found.items in
    part_over g.row.N (component_of n []) (searching (3 - k) k) h (component_way k (taken_at S k) n) (components_way n S (4 - (k + 1)) (k + 1)) _ (c.component_way.ensures [] ∙ ap (λ (P : ℕ → Point). landed g.row.N h (component_way k P n)) c.grid.ensures) c.in_default.is refl
    ∙ next_component n g.row.N h S k c.loop-k-test.true
    ∙ c.loop-k.invariant

pub returns : goal.returns
returns g c =
    λ r. no_component c.args.n g.row.N c.loop-k.found.items (samples_of c.args.samples.now) c.loop-k.k c.loop-k-test.false ∙ c.loop-k.invariant
