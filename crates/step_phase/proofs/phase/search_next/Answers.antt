use Rattle.std.proofs.Common.{◌≡◌, ◌∙◌, ap, ℕ, suc, ◌+◌, ◌-◌, ◌≤◌, ◌⊎◌, inl, inr, arith}
use Rattle.std.proofs.lemmas.Bool.{cases_lt}
use Rattle.search_definition.specs.Dip.{Point}
use Rattle.search_steps.specs.ComponentSteps.{component_next}
use Rattle.search_steps.specs.Steps.{taken_at, searching, components_way}
use Rattle.step_pairs.specs.Landed.{landed}
use Rattle.step_pairs.proofs.LandedLaws.{part_asks, part_over}
use Rattle.step_scan.specs.State.{samples_of}
use Rattle.step_component.specs.State.{component_of}
use Rattle.step_phase.proofs.PhaseLaws.{others}
use Rattle.step_phase.proofs.phase.search_next.Goals as goal

pub returns-in-Some : goal.returns-in-Some
returns-in-Some g c =
    let a = c.args in
    let S = samples_of a.samples.now in
    let i = a.p.i in
    let z = component_of a.n a.row.now.items a.p.at in
    part_asks g.row.N (component_of a.n c.component_next.new.row.items) (searching (3 - i) i) a.found.now.items (component_next i (taken_at S i) a.n z a.y) (components_way a.n S (3 - i) (suc i)) _ (c.component_next.ensures ∙ ap (λ (P : ℕ → Point). landed g.row.N a.found.now.items (component_next i P a.n z a.y)) c.grid.ensures) c.in-Some.is

pub returns-in-None : goal.returns-in-None
returns-in-None g c =
    let a = c.args in
    let S = samples_of a.samples.now in
    let i = a.p.i in
    let j = c.saturating_add.result in
    let z = component_of a.n a.row.now.items a.p.at in
    let b : (j ≡ i + 1) ⊎ (4 ≤ j) × (4 ≤ i) = elim (cases_lt i 255) [ inl l ↦ inl (omega (arith, c.saturating_add.ensures)) | inr l ↦ inr (omega (arith, c.saturating_add.ensures), omega arith) ] in
    part_over g.row.N (component_of a.n c.component_next.new.row.items) (searching (3 - i) i) a.found.now.items (component_next i (taken_at S i) a.n z a.y) (components_way a.n S (3 - i) (suc i)) _ (c.component_next.ensures ∙ ap (λ (P : ℕ → Point). landed g.row.N a.found.now.items (component_next i P a.n z a.y)) c.grid.ensures) c.in-None.is
    (c.components_way.ensures c.component_next.new.row.items ∙ others a.n g.row.N c.component_next.new.found.items S i j b)
