use Rattle.std.proofs.Common.{◌≡◌, refl, ◌∙◌, ap, ◌<◌, ◌-◌, arith, rules}
use Rattle.std.specs.Option.{option_map}
use Rattle.search_definition.specs.Found.{crossing}
use Rattle.search_definition.specs.Scan.{alike, crosses, dips}
use Rattle.search_steps.specs.RefineSteps.{refine_start}
use Rattle.search_steps.specs.ScanSteps.{at_crossing}
use Rattle.step_refine.specs.State.{point_of, refining_of}
use Rattle.step_pairs.specs.Landed.{landed}
use Rattle.step_pairs.proofs.LandedLaws.{part_ends}
use Rattle.search_pairs.specs.Row.{points}
use Rattle.step_scan.specs.State.{scan_of}
use Rattle.step_scan.specs.declared.scan.Scan.TheVariants.{Crossing}
use Rattle.step_scan.proofs.ScanLaws.{item_crosses, item_ends, item_dips, item_none}
use Rattle.step_scan.proofs.scan.item.Goals as goal

pub returns-then-crosses : goal.returns-then-crosses
unfolding crosses alike
returns-then-crosses g c =
    let a = c.args in
    let h = a.found.now.items in
    let d : c.map.result ≡ option_map (Crossing a.l) c.refined.result = search rules in
    λ o e s.
    item_crosses g.row.N o h (points a.row) s a.t (a.t - a.l) a.l c.at-p.ensures c.behind-q.ensures c.crosses.ensures c.if-crosses.true
    (part_ends g.row.N refining_of (scan_of a.t) (Crossing a.l) (at_crossing (a.t - a.l) a.l) h _ (refine_start (o (crossing a.l)) (point_of c.at-p.result) (point_of c.behind-q.result)) (λ _. refl) c.refined.result _
    (c.refined.ensures (o (crossing a.l)) (e (crossing a.l)) ∙ ap (landed g.row.N h) (c.start.ensures (o (crossing a.l)))) d)

pub returns-then-dips : goal.returns-then-dips
unfolding crosses dips alike
returns-then-dips g c =
    let a = c.args in
    let m : 0 < a.t - a.l = omega (arith, c.if-l-t.true) in
    λ o e s. item_dips g.row.N o a.found.now.items (points a.row) s a.t (a.t - a.l) a.l c.at-p.ensures c.behind-q.ensures c.crosses.ensures c.if-crosses.false m c.behind-r.ensures c.dips.ensures c.if-dips.true

pub returns-else-dips : goal.returns-else-dips
unfolding crosses dips alike
returns-else-dips g c =
    let a = c.args in
    let m : 0 < a.t - a.l = omega (arith, c.if-l-t.true) in
    λ o e s. item_none g.row.N o a.found.now.items (points a.row) s a.t (a.t - a.l) a.l c.at-p.ensures c.behind-q.ensures c.crosses.ensures c.if-crosses.false m c.behind-r.ensures c.dips.ensures c.if-dips.false

pub returns-else-l-t : goal.returns-else-l-t
unfolding crosses alike
returns-else-l-t g c =
    let a = c.args in
    let m : a.t - a.l ≡ 0 = omega (arith, c.if-l-t.false) in
    λ o e s. item_ends g.row.N o a.found.now.items (points a.row) s a.t (a.t - a.l) a.l c.at-p.ensures c.behind-q.ensures c.crosses.ensures c.if-crosses.false m
