use Rattle.std.proofs.Common.{◌≡◌, ◌∙◌, ap, rules}
use Rattle.std.specs.Option.{option_map}
use Rattle.search_definition.specs.Found.{after}
use Rattle.search_steps.specs.RefineSteps.{refine_start}
use Rattle.search_steps.specs.DipSteps.{after_way}
use Rattle.step_refine.specs.State.{point_of}
use Rattle.step_pairs.specs.Landed.{landed}
use Rattle.step_dip.specs.declared.dip.Dip.TheVariants.{After}
use Rattle.step_dip.proofs.DipLaws.{after_is}
use Rattle.step_dip.proofs.dip.after_way.Goals as goal

pub returns : goal.returns
unfolding after_way
returns g c =
    let a = c.args in
    let h = a.found.now.items in
    let d : c.map.result ≡ option_map After c.refined.result = search rules in
    λ o e p.
    after_is g.row.N o h (refine_start (o after) (point_of a.m) (point_of a.q)) _ c.refined.result _
    (c.refined.ensures (o after) (e after) ∙ ap (landed g.row.N h) (c.start.ensures (o after)))
    d
