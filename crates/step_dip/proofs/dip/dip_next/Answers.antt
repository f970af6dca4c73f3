use Rattle.std.proofs.Common.{◌≡◌, ◌∙◌, ap, rules}
use Rattle.std.specs.Option.{option_map}
use Rattle.search_definition.specs.Found.{before, after}
use Rattle.search_steps.specs.RefineSteps.{refine_next}
use Rattle.search_steps.specs.DipSteps.{refining_before, after_way, dip_next}
use Rattle.step_refine.specs.State.{point_of, refining_of}
use Rattle.step_pairs.specs.Landed.{landed}
use Rattle.step_pairs.proofs.LandedLaws.{part_asks, part_over}
use Rattle.step_dip.specs.declared.dip.Dip.TheVariants.{Before, After}
use Rattle.step_dip.proofs.DipLaws.{opens, opens_right, sinks, step_from, after_is}
use Rattle.step_dip.proofs.dip.dip_next.Goals as goal

pub returns-in-Opening : goal.returns-in-Opening
returns-in-Opening g c =
    let a = c.args in
    λ o e. opens o (point_of a.p) (point_of a.q) a.d g.row.N a.found.now.items a.y c.in-Opening.is c.sign_of.ensures c.depth_of.ensures

pub returns-in-OpenedLeft : goal.returns-in-OpenedLeft
returns-in-OpenedLeft g c =
    let a = c.args in
    λ o e. opens_right o (point_of a.p) (point_of a.q) a.d g.row.N a.found.now.items a.y _ c.in-OpenedLeft.is c.sign_of-in-OpenedLeft.ensures c.depth_of-in-OpenedLeft.ensures c.opened-v.ensures (c.sink_way.ensures o e)

pub returns-in-Sinking : goal.returns-in-Sinking
returns-in-Sinking g c =
    let a = c.args in
    λ o e. sinks o (point_of a.p) (point_of a.q) a.d g.row.N a.found.now.items a.y _ _ c.in-Sinking.is c.sign_of-in-Sinking.ensures c.depth_of-in-Sinking.ensures (c.sunk.ensures o e)

pub returns-in-Some : goal.returns-in-Some
unfolding dip_next
returns-in-Some g c =
    let a = c.args in
    let h = a.found.now.items in
    let p = point_of a.p in
    let q = point_of a.q in
    let m = point_of c.in-Before.m in
    let r = c.in-Before.r in
    λ o e.
    step_from o p q a.d g.row.N h a.y (Before c.in-Before.m r) c.in-Before.is
    (part_asks g.row.N refining_of (refining_before m) h (refine_next (o before) (refining_of r) a.y) (after_way o p q m) _
    (c.refined.ensures (o before) (e before) ∙ ap (landed g.row.N h) (c.next.ensures (o before))) c.in-Some.is)

pub returns-in-None : goal.returns-in-None
unfolding dip_next
returns-in-None g c =
    let a = c.args in
    let h = a.found.now.items in
    let p = point_of a.p in
    let q = point_of a.q in
    let m = point_of c.in-Before.m in
    let r = c.in-Before.r in
    λ o e.
    step_from o p q a.d g.row.N h a.y (Before c.in-Before.m r) c.in-Before.is
    (part_over g.row.N refining_of (refining_before m) h (refine_next (o before) (refining_of r) a.y) (after_way o p q m) _
    (c.refined.ensures (o before) (e before) ∙ ap (landed g.row.N h) (c.next.ensures (o before))) c.in-None.is (c.after_way.ensures o e p))

pub returns-in-After : goal.returns-in-After
unfolding dip_next
returns-in-After g c =
    let a = c.args in
    let h = a.found.now.items in
    let r = c.in-After.r in
    let d : c.map.result ≡ option_map After c.refined-in-After.result = search rules in
    λ o e.
    step_from o (point_of a.p) (point_of a.q) a.d g.row.N h a.y (After r) c.in-After.is
    (after_is g.row.N o h (refine_next (o after) (refining_of r) a.y) _ c.refined-in-After.result _
    (c.refined-in-After.ensures (o after) (e after) ∙ ap (landed g.row.N h) (c.next-in-After.ensures (o after)))
    d)
