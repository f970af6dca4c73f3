-- The tests, the refinement and the dip are the definition's.
use Rattle.std.proofs.Common.{◌-◌, ◌+◌, suc, arith}
use Rattle.search_definition.specs.Found.{Part, crossing, inner}
use Rattle.search_definition.specs.Scan.{crosses, dips, alike}
use Rattle.search_error.specs.Fixed.{branch_error}
use Rattle.search_pairs.specs.Row.{points}
use Rattle.search_pairs.specs.State.{state}
use Rattle.search_scan.proofs.ScanSteps.{item_crossing, item_inner, inner_is, inner_none}
use Rattle.search_scan.proofs.scan.scan_item.Goals as goal

pub returns-then-crosses : goal.returns-then-crosses
unfolding crosses alike
returns-then-crosses c =
    let a = c.args in
    λ o e.
    item_crossing (branch_error a.branch.now) o (points a.row) a.l (state a.list.now) c.at-a.ensures c.at-b.ensures (a.end - (a.l + 2)) c.crosses.ensures c.if-crosses.true
    (c.put_refined.ensures (o (crossing a.l)) (e (crossing a.l)))

pub returns-then-l-end : goal.returns-then-l-end
unfolding crosses dips alike
returns-then-l-end c =
    let a = c.args in
    let f = branch_error a.branch.now in
    let P = points a.row in
    let s = state a.list.now in
    let n = a.end - (a.l + 2) in
    λ o e.
    item_inner f o P a.l s c.at-a.ensures c.at-b.ensures n c.crosses.ensures c.if-crosses.false
    (inner_is f o P a.l s c.at-a.ensures c.at-b.ensures n {k = a.end - (a.l + 3)} c.at-c.ensures (omega (arith, c.if-l-end.true)) c.dips.ensures (c.dip_if.ensures (λ (h : Part). o (inner (suc a.l) h)) (λ h. e (inner (suc a.l) h))))

pub returns-else-l-end : goal.returns-else-l-end
unfolding crosses alike
returns-else-l-end c =
    let a = c.args in
    let f = branch_error a.branch.now in
    let P = points a.row in
    let s = state a.list.now in
    let n = a.end - (a.l + 2) in
    λ o e.
    item_inner f o P a.l s c.at-a.ensures c.at-b.ensures n c.crosses.ensures c.if-crosses.false (inner_none f o P a.l s n (omega (arith, c.if-l-end.false)))
