use Rattle.std.proofs.Common.{◌≡◌, List, ℕ, ◌-◌}
use Rattle.search_steps.specs.ComponentSteps.{edges_way}
use Rattle.step_pairs.specs.declared.Found.{Found}
use Rattle.step_pairs.specs.Landed.{landed}
use Rattle.search_pairs.specs.Row.{points}
use Rattle.step_component.proofs.component.edges_way.Given as goal

abbrev pub invariant-loop-k : goal.invariant-loop-k
invariant-loop-k l =
    (i room : ℕ) (h : List Found) → landed room h (edges_way i (points l.grid) l.n (l.n - l.k) l.k) ≡ landed room h (edges_way i (points l.grid) l.n (l.n - l.from) l.from)
