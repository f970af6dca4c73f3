use Rattle.std.proofs.Common.{◌≡◌, ◌-◌}
use Rattle.search_steps.specs.Steps.{components_way}
use Rattle.step_pairs.specs.Landed.{landed}
use Rattle.step_scan.specs.State.{samples_of}
use Rattle.step_phase.proofs.phase.components_way.Given as goal

abbrev pub invariant-loop-k : goal.invariant-loop-k
invariant-loop-k g l =
    landed g.row.N l.found.items (components_way l.n (samples_of l.samples) (4 - l.k) l.k)
    ≡ landed g.row.N l.initial.found.items (components_way l.n (samples_of l.samples) (4 - l.i) l.i)
