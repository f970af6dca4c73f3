-- The test and the dip are the definition's.
use Rattle.search_definition.specs.Found.{Part, last}
use Rattle.search_definition.specs.Scan.{falls_to, alike}
use Rattle.search_error.specs.Fixed.{branch_error}
use Rattle.search_pairs.specs.Row.{points}
use Rattle.search_pairs.specs.State.{state}
use Rattle.search_scan.proofs.ScanSteps.{last_is}
use Rattle.search_scan.proofs.scan.last_dip.Goals as goal

pub returns : goal.returns
unfolding falls_to alike
returns c =
    let a = c.args in
    λ o e.
    last_is (branch_error a.branch.now) o (points a.row) a.l (state a.list.now) c.at-a.ensures c.behind-b.ensures c.falls_to.ensures (c.dip_if.ensures (λ (h : Part). o (last a.l h)) (λ h. e (last a.l h)))
