-- `step_dip::dip::dip_angle` meets its contract. Assumes nothing.
use Rattle.step_dip.proofs.DipLaws.{angle_from}
use Rattle.step_refine.specs.State.{point_of}
use Rattle.search_steps.specs.DipSteps.{dip_angle}
use Rattle.search_steps.specs.RefineSteps.{refine_angle}
use Rattle.step_dip.proofs.dip.dip_angle.Goals as goal

pub returns-in-Opening : goal.returns-in-Opening
unfolding dip_angle refine_angle
returns-in-Opening c =
    let a = c.args in
    λ o. angle_from o (point_of a.p) (point_of a.q) a.d _ c.in-Opening.is c.left_of.ensures

pub returns-in-OpenedLeft : goal.returns-in-OpenedLeft
unfolding dip_angle refine_angle
returns-in-OpenedLeft c =
    let a = c.args in
    λ o. angle_from o (point_of a.p) (point_of a.q) a.d _ c.in-OpenedLeft.is c.right_of.ensures

pub returns-in-Sinking : goal.returns-in-Sinking
unfolding dip_angle refine_angle
returns-in-Sinking c =
    let a = c.args in
    λ o. angle_from o (point_of a.p) (point_of a.q) a.d _ c.in-Sinking.is c.probe.ensures

pub returns-in-Before : goal.returns-in-Before
unfolding dip_angle refine_angle
returns-in-Before c =
    let a = c.args in
    λ o. angle_from o (point_of a.p) (point_of a.q) a.d _ c.in-Before.is c.next.ensures

pub returns-in-After : goal.returns-in-After
unfolding dip_angle refine_angle
returns-in-After c =
    let a = c.args in
    λ o. angle_from o (point_of a.p) (point_of a.q) a.d _ c.in-After.is c.next-in-After.ensures
