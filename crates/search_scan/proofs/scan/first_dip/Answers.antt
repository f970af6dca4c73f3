-- The test and the dip are the definition's.
use Rattle.search_definition.specs.Found.{Part, first}
use Rattle.search_definition.specs.Scan.{falls_back, alike}
use Rattle.search_error.specs.Fixed.{branch_error}
use Rattle.search_pairs.specs.Row.{points}
use Rattle.search_pairs.specs.State.{state}
use Rattle.search_scan.proofs.ScanSteps.{first_is}
use Rattle.search_scan.proofs.scan.first_dip.Goals as goal

pub returns : goal.returns
unfolding falls_back alike
returns c =
    let a = c.args in
    λ o e.
    first_is (branch_error a.branch.now) o (points a.row) a.l (state a.list.now) c.at-a.ensures c.behind-b.ensures c.falls_back.ensures (c.dip_if.ensures (λ (h : Part). o (first a.l h)) (λ h. e (first a.l h)))
