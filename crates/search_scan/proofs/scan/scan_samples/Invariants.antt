-- What is left of the row after the state now is the whole row's items after the state at entry.
use Rattle.std.proofs.Common.{◌≡◌, ◌-◌}
use Rattle.search_definition.specs.Found.{Place, Origin, component}
use Rattle.search_definition.specs.Scan.{items}
use Rattle.search_error.specs.Fixed.{branch_error}
use Rattle.search_pairs.specs.Row.{points}
use Rattle.search_pairs.specs.State.{state, afterwards}
use Rattle.search_scan.proofs.ScanSteps.{items_from}
use Rattle.search_scan.proofs.scan.scan_samples.Given as goal

abbrev pub invariant-loop-l : goal.invariant-loop-l
invariant-loop-l z =
    (o : Place → Origin) → ((p : Place) → component (o p) ≡ z.branch.i) →
    afterwards (state z.list) (items_from (branch_error z.branch) o (points z.row) z.end z.l)
    ≡ afterwards (state z.fn.list) (items (branch_error z.branch) o (points z.row) (z.fn.m - 1) z.fn.s)
