use Rattle.std.proofs.Common.{◌∙◌, ap}
use Rattle.search_definition.specs.Found.{only, before}
use Rattle.search_steps.specs.RefineSteps.{refine_start}
use Rattle.search_steps.specs.DipSteps.{refining_before, after_way}
use Rattle.search_dip.specs.Valley.{valley}
use Rattle.step_refine.specs.State.{point_of, refining_of}
use Rattle.step_pairs.specs.Landed.{landed}
use Rattle.step_pairs.proofs.LandedLaws.{part_asks, part_over}
use Rattle.step_dip.proofs.DipLaws.{crosses_there, touches, misses}
use Rattle.step_dip.proofs.dip.crossed_way.Goals as goal

pub returns-in-Some : goal.returns-in-Some
returns-in-Some g c =
    let a = c.args in
    let h = a.found.now.items in
    let p = point_of a.p in
    let q = point_of a.q in
    let m = point_of (record { x = a.v.best_x; y = _ }) in
    λ o e.
    crosses_there g.row.N o h p q (valley a.v) c.if-g.true c.sign_of.ensures
    (part_asks g.row.N refining_of (refining_before m) h (refine_start (o before) p m) (after_way o p q m) _
    (c.refined.ensures (o before) (e before) ∙ ap (landed g.row.N h) (c.start.ensures (o before))) c.in-Some.is)

pub returns-in-None : goal.returns-in-None
returns-in-None g c =
    let a = c.args in
    let h = a.found.now.items in
    let p = point_of a.p in
    let q = point_of a.q in
    let m = point_of (record { x = a.v.best_x; y = _ }) in
    λ o e.
    crosses_there g.row.N o h p q (valley a.v) c.if-g.true c.sign_of.ensures
    (part_over g.row.N refining_of (refining_before m) h (refine_start (o before) p m) (after_way o p q m) _
    (c.refined.ensures (o before) (e before) ∙ ap (landed g.row.N h) (c.start.ensures (o before))) c.in-None.is (c.after_way.ensures o e p))

pub returns-then-is_finite : goal.returns-then-is_finite
returns-then-is_finite g c =
    let a = c.args in
    λ o e. touches g.row.N o a.found.now.items (point_of a.p) (point_of a.q) (valley a.v) c.if-g.false c.is_finite.ensures c.if-is_finite.true (c.add_pair.ensures (o only) (e only))

pub returns-else-is_finite : goal.returns-else-is_finite
returns-else-is_finite g c =
    let a = c.args in
    λ o e. misses g.row.N o a.found.now.items (point_of a.p) (point_of a.q) (valley a.v) c.if-g.false c.is_finite.ensures c.if-is_finite.false
