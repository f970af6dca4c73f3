use Rattle.std.proofs.Common.{◌∙◌}
use Rattle.step_search.specs.Holds.{memory}
use Rattle.step_search.proofs.HoldsLaws.{same_angle, error_steps}
use Rattle.step_search.proofs.step.Goals as goal

pub returns : goal.returns
returns g c =
    let a = c.args in
    let m = memory a.samples.now.items a.row.now.items a.found.now.items in
    λ s h.
    error_steps a.fixed a.n g.row.N s c.next.result (memory c.next.new.samples.items c.next.new.row.items c.next.new.found.items) c.error_given_q1-e.result c.error_given_q1-e.ensures (c.asked_angle-x.ensures ∙ same_angle a.n g.row.N s a.phase m h) (c.next.ensures s h)
