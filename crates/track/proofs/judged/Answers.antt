-- The numbers that are lent, then those of the arm that is left.
use Rattle.std.proofs.Common.{rules, ◌≡◌}
use Rattle.refusals.specs.Refusal.{number, number_of}
use Rattle.refusals.proofs.Outcomes.{passed_on, number-positive}
use Rattle.solve.proofs.Accepted.{unnamed}
use Rattle.track.proofs.Accepted.{track_accepted, left-of, to-of}
use Rattle.track.proofs.Solves.{by_judge, left-overflows, to-overflows, unrefused, task_is}
use Rattle.track.proofs.judged.Goals as goal

pub returns-in_err-shaped-clause-refused : goal.returns-in_err-shaped-clause-refused
returns-in_err-shaped-clause-refused c =
    let e : number_of c.from_residual.result ≡ number c.in_err-shaped.field-0.0 = search (rules, passed_on) in
    rw e (by_judge _ _ _ _ _ _ c.in_err-shaped.ensures.refused (number-positive _))

pub invariant_of-lock : goal.invariant_of-lock
invariant_of-lock c = let fit = track_accepted _ _ _ _ _ _ c.in_ok-shaped.ensures.refused in record { seven_joints = fit.joint_high }

pub returns-then-not-all_finite-clause-refused : goal.returns-then-not-all_finite-clause-refused
returns-then-not-all_finite-clause-refused c = left-overflows _ _ _ _ _ _ c.in_ok-shaped.ensures.refused (left-of _ _ _ c.in_ok-shaped.ensures.arm c.reduced_arm-left.ensures) (to-of _ _ _ _ c.in_ok-shaped.ensures.arm c.in_ok-shaped.ensures.pose c.handed_on-to.ensures) c.all_finite.ensures c.if-not-all_finite.true

pub returns-then-not-all_finite-2-clause-refused : goal.returns-then-not-all_finite-2-clause-refused
returns-then-not-all_finite-2-clause-refused c =
    to-overflows _ _ _ _ _ _ c.in_ok-shaped.ensures.refused (left-of _ _ _ c.in_ok-shaped.ensures.arm c.reduced_arm-left.ensures) (to-of _ _ _ _ c.in_ok-shaped.ensures.arm c.in_ok-shaped.ensures.pose c.handed_on-to.ensures) c.all_finite.ensures c.if-not-all_finite.false c.all_finite-2.ensures c.if-not-all_finite-2.true

pub returns-in_err-known-clause-refused : goal.returns-in_err-known-clause-refused
returns-in_err-known-clause-refused c =
    let fit = track_accepted _ _ _ _ _ _ c.in_ok-shaped.ensures.refused in
    absurd (unnamed _ _ c.in_err-known.ensures fit.family_low fit.family_high)

pub returns-clause-refused : goal.returns-clause-refused
returns-clause-refused c =
    unrefused _ _ _ _ _ _ c.in_ok-shaped.ensures.refused (left-of _ _ _ c.in_ok-shaped.ensures.arm c.reduced_arm-left.ensures) (to-of _ _ _ _ c.in_ok-shaped.ensures.arm c.in_ok-shaped.ensures.pose c.handed_on-to.ensures) c.all_finite.ensures c.if-not-all_finite.false c.all_finite-2.ensures c.if-not-all_finite-2.false

pub returns-clause-task : goal.returns-clause-task
returns-clause-task c =
    let z = unrefused _ _ _ _ _ _ c.in_ok-shaped.ensures.refused (left-of _ _ _ c.in_ok-shaped.ensures.arm c.reduced_arm-left.ensures) (to-of _ _ _ _ c.in_ok-shaped.ensures.arm c.in_ok-shaped.ensures.pose c.handed_on-to.ensures) c.all_finite.ensures c.if-not-all_finite.false c.all_finite-2.ensures c.if-not-all_finite-2.false in
    task_is _ _ _ _ _ _ c.in_ok-shaped.ensures.refused (left-of _ _ _ c.in_ok-shaped.ensures.arm c.reduced_arm-left.ensures) (to-of _ _ _ _ c.in_ok-shaped.ensures.arm c.in_ok-shaped.ensures.pose c.handed_on-to.ensures) z c.in_ok-known.ensures c.new-2.ensures

pub returns-clause-joint : goal.returns-clause-joint
returns-clause-joint c = (track_accepted _ _ _ _ _ _ c.in_ok-shaped.ensures.refused).joint_high
