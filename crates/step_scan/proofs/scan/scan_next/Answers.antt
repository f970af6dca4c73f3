use Rattle.std.proofs.Common.{◌≡◌, refl, ◌∙◌, ap, suc, ◌+◌, ◌-◌, add-one, arith, rules}
use Rattle.std.specs.Option.{option_map}
use Rattle.search_definition.specs.Dip.{Point}
use Rattle.search_definition.specs.Found.{crossing, inner, last, first}
use Rattle.search_steps.specs.RefineSteps.{refine_next}
use Rattle.search_steps.specs.DipSteps.{dip_next}
use Rattle.search_steps.specs.ScanSteps.{at_crossing, at_inner, at_last, at_first, of_inner, of_last, of_first, first_way, items_way, scan_next}
use Rattle.step_refine.specs.State.{refining_of}
use Rattle.step_pairs.specs.Landed.{landed}
use Rattle.step_pairs.proofs.LandedLaws.{part_asks, part_over, part_ends}
use Rattle.step_dip.specs.State.{dip_of}
use Rattle.search_pairs.specs.Row.{points}
use Rattle.step_scan.specs.State.{last_of, scan_of}
use Rattle.step_scan.specs.declared.scan.Scan.TheVariants.{Crossing, Inner, Last, First}
use Rattle.step_scan.proofs.ScanLaws.{step_from, between}
use Rattle.step_scan.proofs.scan.scan_next.Goals as goal

pub returns-in-Some : goal.returns-in-Some
unfolding scan_next
returns-in-Some g c =
    let N = g.row.N in
    let P = points c.args.row in
    let s = c.args.run.from in
    let t = last_of c.args.run in
    let h = c.args.found.now.items in
    let l = c.in-Crossing.l in
    let r = c.in-Crossing.r in
    λ o e.
    step_from o P s t c.args.z (Crossing l r) c.in-Crossing.is N h c.args.y
    (part_asks N refining_of (at_crossing (t - l) l) h (refine_next (o (crossing l)) (refining_of r) c.args.y) (items_way o P s t (t - l) (suc l)) _
    (c.refined.ensures (o (crossing l)) (e (crossing l)) ∙ ap (landed N h) (c.next.ensures (o (crossing l)))) c.in-Some.is)

pub returns-in-None : goal.returns-in-None
unfolding scan_next
returns-in-None g c =
    let N = g.row.N in
    let P = points c.args.row in
    let s = c.args.run.from in
    let t = last_of c.args.run in
    let h = c.args.found.now.items in
    let l = c.in-Crossing.l in
    let r = c.in-Crossing.r in
    λ o e.
    step_from o P s t c.args.z (Crossing l r) c.in-Crossing.is N h c.args.y
    (part_over N refining_of (at_crossing (t - l) l) h (refine_next (o (crossing l)) (refining_of r) c.args.y) (items_way o P s t (t - l) (suc l)) _
    (c.refined.ensures (o (crossing l)) (e (crossing l)) ∙ ap (landed N h) (c.next.ensures (o (crossing l)))) c.in-None.is (c.items_after.ensures o e))

pub returns-in-Some-dip_next : goal.returns-in-Some-dip_next
unfolding scan_next
returns-in-Some-dip_next g c =
    let N = g.row.N in
    let P = points c.args.row in
    let s = c.args.run.from in
    let t = last_of c.args.run in
    let h = c.args.found.now.items in
    let l = c.in-Inner.l in
    let d = c.in-Inner.d in
    let two : l + 2 ≡ suc (suc l) = omega arith in
    λ o e.
    step_from o P s t c.args.z (Inner l d) c.in-Inner.is N h c.args.y
    (part_asks N dip_of (at_inner (t - l) l) h (dip_next (of_inner o l) (P l) (P (suc (suc l))) (dip_of d) c.args.y) (items_way o P s t (t - l) (suc l)) _
    (c.dip_next.ensures (of_inner o l) (λ k. e (inner (suc l) k)) ∙ between P (λ (p q : Point). landed N h (dip_next (of_inner o l) p q (dip_of d) c.args.y)) l l 2 (suc (suc l)) refl two c.at.ensures c.behind.ensures) c.in-Some-dip_next.is)

pub returns-in-None-dip_next : goal.returns-in-None-dip_next
unfolding scan_next
returns-in-None-dip_next g c =
    let N = g.row.N in
    let P = points c.args.row in
    let s = c.args.run.from in
    let t = last_of c.args.run in
    let h = c.args.found.now.items in
    let l = c.in-Inner.l in
    let d = c.in-Inner.d in
    let two : l + 2 ≡ suc (suc l) = omega arith in
    λ o e.
    step_from o P s t c.args.z (Inner l d) c.in-Inner.is N h c.args.y
    (part_over N dip_of (at_inner (t - l) l) h (dip_next (of_inner o l) (P l) (P (suc (suc l))) (dip_of d) c.args.y) (items_way o P s t (t - l) (suc l)) _
    (c.dip_next.ensures (of_inner o l) (λ k. e (inner (suc l) k)) ∙ between P (λ (p q : Point). landed N h (dip_next (of_inner o l) p q (dip_of d) c.args.y)) l l 2 (suc (suc l)) refl two c.at.ensures c.behind.ensures) c.in-None-dip_next.is (c.items_after-in-None-dip_next.ensures o e))

pub returns-in-Some-dip_next-2 : goal.returns-in-Some-dip_next-2
unfolding scan_next
returns-in-Some-dip_next-2 g c =
    let N = g.row.N in
    let P = points c.args.row in
    let s = c.args.run.from in
    let t = last_of c.args.run in
    let u = c.last_pair-t.result in
    let h = c.args.found.now.items in
    let d = c.in-Last.d in
    λ o e.
    step_from o P s t c.args.z (Last d) c.in-Last.is N h c.args.y
    (part_asks N dip_of at_last h (dip_next (of_last o t) (P t) (P (suc t)) (dip_of d) c.args.y) (first_way o P s t) _
    (c.dip_next-in-Last.ensures (of_last o t) (λ k. e (last t k)) ∙ between P (λ (p q : Point). landed N h (dip_next (of_last o t) p q (dip_of d) c.args.y)) u t 1 (suc t) c.last_pair-t.ensures (add-one u ∙ ap suc c.last_pair-t.ensures) c.at-in-Last.ensures c.behind-in-Last.ensures) c.in-Some-dip_next-2.is)

pub returns-in-None-dip_next-2 : goal.returns-in-None-dip_next-2
unfolding scan_next
returns-in-None-dip_next-2 g c =
    let N = g.row.N in
    let P = points c.args.row in
    let s = c.args.run.from in
    let t = last_of c.args.run in
    let u = c.last_pair-t.result in
    let h = c.args.found.now.items in
    let d = c.in-Last.d in
    λ o e.
    step_from o P s t c.args.z (Last d) c.in-Last.is N h c.args.y
    (part_over N dip_of at_last h (dip_next (of_last o t) (P t) (P (suc t)) (dip_of d) c.args.y) (first_way o P s t) _
    (c.dip_next-in-Last.ensures (of_last o t) (λ k. e (last t k)) ∙ between P (λ (p q : Point). landed N h (dip_next (of_last o t) p q (dip_of d) c.args.y)) u t 1 (suc t) c.last_pair-t.ensures (add-one u ∙ ap suc c.last_pair-t.ensures) c.at-in-Last.ensures c.behind-in-Last.ensures) c.in-None-dip_next-2.is (c.first_way.ensures o t N _))

pub returns-in-First : goal.returns-in-First
unfolding scan_next
returns-in-First g c =
    let N = g.row.N in
    let P = points c.args.row in
    let s = c.args.run.from in
    let t = last_of c.args.run in
    let h = c.args.found.now.items in
    let d = c.in-First.d in
    let m : c.map.result ≡ option_map First c.dip_next-in-First.result = search rules in
    λ o e.
    step_from o P s t c.args.z (First d) c.in-First.is N h c.args.y
    (part_ends N dip_of (scan_of t) First at_first h _ (dip_next (of_first o s) (P s) (P (suc s)) (dip_of d) c.args.y) (λ _. refl) c.dip_next-in-First.result _
    (c.dip_next-in-First.ensures (of_first o s) (λ k. e (first s k)) ∙ between P (λ (p q : Point). landed N h (dip_next (of_first o s) p q (dip_of d) c.args.y)) s s 1 (suc s) refl (add-one s) c.at-in-First.ensures c.behind-in-First.ensures) m)
