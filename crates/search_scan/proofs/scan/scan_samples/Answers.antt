-- At the loop's head, what is left of the row after the state now is the whole row's items after the state at entry, and so the counts stay low by the bounds of the definition.
use Rattle.std.proofs.Common.{◌+◌, refl, arith}
use Rattle.search_definition.specs.Found.{grid, component}
use Rattle.search_error.specs.Fixed.{branch_error}
use Rattle.search_pairs.specs.Row.{points}
use Rattle.search_pairs.specs.State.{state}
use Rattle.search_scan.proofs.ScanSteps.{item_then, no_more, scan_short, scan_whole, few_now, few_then}
use Rattle.search_scan.proofs.scan.scan_samples.Goals as goal

pub returns-then-m-lt2 : goal.returns-then-m-lt2
returns-then-m-lt2 c =
    let a = c.args in
    λ o e. scan_short (branch_error a.branch.now) o (points a.row) a.s a.m (state a.list.now) c.if-m-lt2.true

pub scan_item-requires : goal.scan_item-requires
unfolding component
scan_item-requires c =
    let a = c.args in
    let o = grid a.branch.now.i in
    let low = few_now (branch_error a.branch.now) o (points a.row) a.s a.m c.if-m-lt2.false (state a.list.now) (state c.loop-l.list) _ (c.loop-l.invariant o (λ p. refl)) in
    omega (arith, low, c.requires, c.loop-l-test.true)

pub loop-l-preserved : goal.loop-l-preserved
loop-l-preserved c =
    let a = c.args in
    λ o e.
    item_then (branch_error a.branch.now) o (points a.row) (a.s + a.m) c.loop-l.l (state c.loop-l.list) (omega arith) (c.loop-l.invariant o e) (c.scan_item.ensures o e)

pub last_dip-requires : goal.last_dip-requires
unfolding component
last_dip-requires c =
    let a = c.args in
    let o = grid a.branch.now.i in
    let low = few_now (branch_error a.branch.now) o (points a.row) a.s a.m c.if-m-lt2.false (state a.list.now) (state c.loop-l.list) _ (c.loop-l.invariant o (λ p. refl)) in
    omega (arith, low, c.requires, c.if-m-lt2.false)

pub first_dip-requires : goal.first_dip-requires
unfolding component
first_dip-requires c =
    let a = c.args in
    let o = grid a.branch.now.i in
    let f = branch_error a.branch.now in
    let P = points a.row in
    let done = no_more f o P (a.s + a.m) c.loop-l.l (state c.loop-l.list) (omega arith) (c.loop-l.invariant o (λ p. refl)) in
    let low = few_then f o P a.s a.m c.if-m-lt2.false (state a.list.now) _ _ done (c.last_dip.ensures o (λ p. refl)) in
    omega (arith, low, c.requires, c.if-m-lt2.false)

pub returns : goal.returns
returns c =
    let a = c.args in
    let f = branch_error a.branch.now in
    let P = points a.row in
    λ o e.
    scan_whole f o P a.s a.m c.if-m-lt2.false (state a.list.now) _
    (no_more f o P (a.s + a.m) c.loop-l.l (state c.loop-l.list) (omega arith) (c.loop-l.invariant o e)) (c.last_dip.ensures o e) (c.first_dip.ensures o e)
