use Rattle.std.proofs.Common.{sym, ◌∙◌, ap, ℕ, List}
use Rattle.search_definition.specs.Dip.{Point}
use Rattle.search_definition.specs.Search.{angle, delta}
use Rattle.search_steps.specs.ComponentSteps.{component_angle}
use Rattle.search_steps.specs.Steps.{angle_in, taken_at}
use Rattle.step_component.specs.State.{component_of}
use Rattle.step_scan.specs.State.{samples_of}
use Rattle.search_pairs.specs.declared.row.Sample.{Sample}
use Rattle.step_search.specs.Holds.{phase_of}
use Rattle.step_search.specs.declared.SearchPhase.{SearchPhase}
use Rattle.step_search.proofs.asked_angle.Goals as goal

pub returns-in-Sampling : goal.returns-in-Sampling
unfolding angle_in angle delta
returns-in-Sampling g c =
    let a = c.args in
    let s = a.samples.now.items in
    c.angle.ensures ∙ ap (λ (k : ℕ). angle a.n k) c.len.ensures.value ∙ sym (ap (λ (p : SearchPhase). angle_in a.n (samples_of s) (phase_of a.n s a.row.now.items p)) c.in-Sampling.is)

pub returns-in-Searching : goal.returns-in-Searching
unfolding angle_in
returns-in-Searching g c =
    let a = c.args in
    let s = a.samples.now.items in
    let p = c.in-Searching.p in
    c.component_angle.ensures p.i a.n
    ∙ ap (λ (P : ℕ → Point). component_angle p.i P a.n (component_of a.n a.row.now.items p.at)) c.grid.ensures
    ∙ ap (λ (l : List Sample). component_angle p.i (taken_at (samples_of l) p.i) a.n (component_of a.n a.row.now.items p.at)) c.as_slice.ensures.value
    ∙ sym (ap (λ (p : SearchPhase). angle_in a.n (samples_of s) (phase_of a.n s a.row.now.items p)) c.in-Searching.is)

pub returns-in-Ended : goal.returns-in-Ended
unfolding angle_in
returns-in-Ended g c =
    let a = c.args in
    let s = a.samples.now.items in
    c.not_a_number.ensures ∙ sym (ap (λ (p : SearchPhase). angle_in a.n (samples_of s) (phase_of a.n s a.row.now.items p)) c.in-Ended.is)
