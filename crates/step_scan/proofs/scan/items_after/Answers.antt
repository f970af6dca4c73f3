use Rattle.std.proofs.Common.{◌∙◌, ◌+◌, ◌-◌, suc, ◌<◌, ◌≤◌, arith}
use Rattle.search_definition.specs.Found.{Place, Origin}
use Rattle.search_steps.specs.ScanSteps.{items_way}
use Rattle.step_pairs.proofs.LandedLaws.{then_asks, then_over}
use Rattle.std.proofs.Common.{refl}
use Rattle.search_pairs.specs.Row.{points}
use Rattle.step_scan.specs.State.{last_of, scan_of, item_way}
use Rattle.search_steps.specs.Way.{over}
use Rattle.std.specs.Prelude.{[]}
use Rattle.step_scan.proofs.ScanLaws.{item_then, items_next, items_end, item_of_run}
use Rattle.step_scan.proofs.scan.items_after.Goals as goal

pub returns-in-Some : goal.returns-in-Some
returns-in-Some g c =
    let N = g.row.N in
    let P = points c.args.row in
    let s = c.args.run.from in
    let t = last_of c.args.run in
    let l = c.loop-at.at in
    let h = c.loop-at.found.items in
    let w = λ (o : Place → Origin). items_way o P s t (t - (l + 1)) (suc (l + 1)) in
    let b : l < t = omega (arith, c.loop-at-test.true, c.last_pair-t.ensures) in
    λ o e.
    then_asks N (scan_of t) h (item_way o P s t (t - (l + 1)) (l + 1) (over [])) (w o) (item_way o P s t (t - (l + 1)) (l + 1) (w o)) (item_then N o h P s t (w o) (t - (l + 1)) (l + 1)) _ _
    (item_of_run N o h c.item.new.found.items P s (l + 1) t c.last_pair-t.result c.item.result c.last_pair-t.ensures (c.item.ensures o e s)) c.in-Some.is
    ∙ items_next N o h P s t l b
    ∙ c.loop-at.invariant o e

pub loop-at-preserved : goal.loop-at-preserved
loop-at-preserved g c =
    let N = g.row.N in
    let P = points c.args.row in
    let s = c.args.run.from in
    let t = last_of c.args.run in
    let l = c.loop-at.at in
    let h = c.loop-at.found.items in
    let w = λ (o : Place → Origin). items_way o P s t (t - (l + 1)) (suc (l + 1)) in
    let b : l < t = omega (arith, c.loop-at-test.true, c.last_pair-t.ensures) in
    λ o e.
    then_over N (scan_of t) h (item_way o P s t (t - (l + 1)) (l + 1) (over [])) (w o) (item_way o P s t (t - (l + 1)) (l + 1) (w o)) (item_then N o h P s t (w o) (t - (l + 1)) (l + 1)) _
    (item_of_run N o h c.item.new.found.items P s (l + 1) t c.last_pair-t.result c.item.result c.last_pair-t.ensures (c.item.ensures o e s)) c.in_default.is refl
    ∙ items_next N o h P s t l b
    ∙ c.loop-at.invariant o e

pub returns : goal.returns
returns g c =
    let t = last_of c.args.run in
    let l = c.loop-at.at in
    let b : t ≤ l = omega (arith, c.loop-at-test.false, c.last_pair-t.ensures) in
    λ o e.
    c.last_way.ensures o g.row.N c.loop-at.found.items
    ∙ items_end g.row.N o c.loop-at.found.items (points c.args.row) c.args.run.from t l b
    ∙ c.loop-at.invariant o e
