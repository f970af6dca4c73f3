use Rattle.std.proofs.Common.{◌≡◌, suc, ◌-◌}
use Rattle.search_definition.specs.Found.{Place, Origin, component}
use Rattle.search_steps.specs.ScanSteps.{items_way}
use Rattle.step_pairs.specs.Landed.{landed}
use Rattle.search_pairs.specs.Row.{points}
use Rattle.step_scan.specs.State.{last_of}
use Rattle.step_scan.proofs.scan.items_after.Given as goal

abbrev pub invariant-loop-at : goal.invariant-loop-at
invariant-loop-at g l =
    (o : Place → Origin) → ((p : Place) → component (o p) ≡ l.i)
    → landed g.row.N l.found.items (items_way o (points l.row) l.run.from (last_of l.run) (last_of l.run - l.at) (suc l.at))
    ≡ landed g.row.N l.initial.found.items (items_way o (points l.row) l.run.from (last_of l.run) (last_of l.run - l.l) (suc l.l))
