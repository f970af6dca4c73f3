use Rattle.std.proofs.Common.{sym, ◌∙◌, ap, List, Float}
use Rattle.std.specs.Prelude.{None}
use Rattle.std.specs.declared.ops.ControlFlow.{ControlFlow}
use Rattle.step_refine.specs.declared.Refining.{Refining}
use Rattle.step_refine.specs.State.{way_of}
use Rattle.step_pairs.specs.declared.Found.{Found}
use Rattle.step_pairs.specs.Landed.{putting, landing, landed}
use Rattle.step_pairs.proofs.refined.Goals as goal

pub returns-in-Continue : goal.returns-in-Continue
unfolding landed putting
returns-in-Continue g c =
    λ o e. sym (ap (λ (w : ControlFlow Float Refining). landed g.row.N c.args.found.now.items (way_of o w)) c.in-Continue.is)

pub returns-in-Break : goal.returns-in-Break
unfolding landed putting
returns-in-Break g c =
    λ o e.
    ap (λ (z : List Found). landing z None) (c.add_pair.ensures o e)
    ∙ sym (ap (λ (w : ControlFlow Float Refining). landed g.row.N c.args.found.now.items (way_of o w)) c.in-Break.is)
