use Rattle.std.proofs.Common.{◌∙◌, ◌-◌, suc, []}
use Rattle.search_steps.specs.Way.{over}
use Rattle.search_definition.specs.Found.{Place, Origin}
use Rattle.search_steps.specs.ScanSteps.{items_way}
use Rattle.step_pairs.proofs.LandedLaws.{then_asks, then_over}
use Rattle.search_pairs.specs.Row.{points}
use Rattle.step_scan.specs.State.{last_of, scan_of, item_way}
use Rattle.step_scan.proofs.ScanLaws.{item_then, item_of_run, short_row, long_row}
use Rattle.step_scan.proofs.scan.scan_way.Goals as goal

pub returns-then-run-lt2 : goal.returns-then-run-lt2
returns-then-run-lt2 g c =
    λ o e. short_row g.row.N o c.args.found.now.items (points c.args.row) c.args.run.from c.args.run.count c.if-run-lt2.true

pub returns-in-Some : goal.returns-in-Some
returns-in-Some g c =
    let N = g.row.N in
    let P = points c.args.row in
    let s = c.args.run.from in
    let t = last_of c.args.run in
    let h = c.args.found.now.items in
    let w = λ (o : Place → Origin). items_way o P s t (t - s) (suc s) in
    λ o e.
    then_asks N (scan_of t) h (item_way o P s t (t - s) s (over [])) (w o) (item_way o P s t (t - s) s (w o)) (item_then N o h P s t (w o) (t - s) s) _ _
    (item_of_run N o h c.item.new.found.items P s s t c.last_pair.result c.item.result c.last_pair.ensures (c.item.ensures o e s)) c.in-Some.is
    ∙ long_row N o h P s c.args.run.count c.if-run-lt2.false

pub returns-in-None : goal.returns-in-None
returns-in-None g c =
    let N = g.row.N in
    let P = points c.args.row in
    let s = c.args.run.from in
    let t = last_of c.args.run in
    let h = c.args.found.now.items in
    let w = λ (o : Place → Origin). items_way o P s t (t - s) (suc s) in
    λ o e.
    then_over N (scan_of t) h (item_way o P s t (t - s) s (over [])) (w o) (item_way o P s t (t - s) s (w o)) (item_then N o h P s t (w o) (t - s) s) _
    (item_of_run N o h c.item.new.found.items P s s t c.last_pair.result c.item.result c.last_pair.ensures (c.item.ensures o e s)) c.in-None.is (c.items_after.ensures o e)
    ∙ long_row N o h P s c.args.run.count c.if-run-lt2.false
