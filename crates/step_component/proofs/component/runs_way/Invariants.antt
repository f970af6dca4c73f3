use Rattle.std.proofs.Common.{◌≡◌, suc, ◌-◌}
use Rattle.search_steps.specs.ComponentSteps.{runs_way}
use Rattle.step_pairs.specs.Landed.{landed}
use Rattle.search_pairs.specs.Row.{points}
use Rattle.step_component.proofs.component.runs_way.Given as goal

abbrev pub invariant-loop-s : goal.invariant-loop-s
invariant-loop-s g l =
    landed g.row.N l.found.items (runs_way l.i (points l.grid) l.n (suc l.n - l.s) l.s 0)
    ≡ landed g.row.N l.initial.found.items (runs_way l.i (points l.grid) l.n (suc l.n - l.from) l.from 0)

abbrev pub decreases-loop-s : goal.decreases-loop-s
decreases-loop-s g l = suc l.n - l.s
