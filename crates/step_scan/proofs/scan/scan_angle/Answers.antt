use Rattle.std.proofs.Common.{◌≡◌, refl, ◌∙◌, ap, suc, ◌+◌, add-one, arith}
use Rattle.search_definition.specs.Dip.{Point}
use Rattle.search_steps.specs.DipSteps.{dip_angle}
use Rattle.search_steps.specs.ScanSteps.{scan_angle, of_inner, of_last, of_first}
use Rattle.search_steps.specs.RefineSteps.{refine_angle}
use Rattle.step_dip.specs.State.{dip_of}
use Rattle.search_pairs.specs.Row.{points}
use Rattle.step_scan.specs.State.{last_of}
use Rattle.step_scan.proofs.ScanLaws.{angle_from, between}
use Rattle.step_scan.proofs.scan.scan_angle.Goals as goal

pub returns-in-Crossing : goal.returns-in-Crossing
unfolding scan_angle refine_angle
returns-in-Crossing c =
    λ o. angle_from o (points c.args.row) c.args.run.from (last_of c.args.run) c.args.z _ c.in-Crossing.is c.next.ensures

pub returns-in-Inner : goal.returns-in-Inner
unfolding scan_angle
returns-in-Inner c =
    let P = points c.args.row in
    let l = c.in-Inner.l in
    let two : l + 2 ≡ suc (suc l) = omega arith in
    λ o.
    angle_from o P c.args.run.from (last_of c.args.run) c.args.z _ c.in-Inner.is
    (c.dip_angle.ensures (of_inner o l) ∙ between P (λ (p q : Point). dip_angle (of_inner o l) p q (dip_of c.in-Inner.d)) l l 2 (suc (suc l)) refl two c.at.ensures c.behind.ensures)

pub returns-in-Last : goal.returns-in-Last
unfolding scan_angle
returns-in-Last c =
    let P = points c.args.row in
    let t = last_of c.args.run in
    let u = c.last_pair-t.result in
    λ o.
    angle_from o P c.args.run.from t c.args.z _ c.in-Last.is
    (c.dip_angle-in-Last.ensures (of_last o t) ∙ between P (λ (p q : Point). dip_angle (of_last o t) p q (dip_of c.in-Last.d)) u t 1 (suc t) c.last_pair-t.ensures (add-one u ∙ ap suc c.last_pair-t.ensures) c.at-in-Last.ensures c.behind-in-Last.ensures)

pub returns-in-First : goal.returns-in-First
unfolding scan_angle
returns-in-First c =
    let P = points c.args.row in
    let s = c.args.run.from in
    λ o.
    angle_from o P s (last_of c.args.run) c.args.z _ c.in-First.is
    (c.dip_angle-in-First.ensures (of_first o s) ∙ between P (λ (p q : Point). dip_angle (of_first o s) p q (dip_of c.in-First.d)) s s 1 (suc s) refl (add-one s) c.at-in-First.ensures c.behind-in-First.ensures)
