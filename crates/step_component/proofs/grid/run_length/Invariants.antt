use Rattle.std.proofs.Common.{suc, ◌-◌}
use Rattle.search_pairs.specs.Row.{points}
use Rattle.step_component.proofs.ComponentLaws.{Walked}
use Rattle.step_component.proofs.grid.run_length.Given as goal

abbrev pub invariant-loop-at : goal.invariant-loop-at
invariant-loop-at l = Walked (points l.grid) (suc l.n - l.from) l.from (l.at - l.from)
