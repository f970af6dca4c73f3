-- 4 to 6, then 11, then 7 and 8.
use Rattle.std.proofs.Common.{rules, ◌≡◌}
use Rattle.refusals.specs.Refusal.{number, number_of}
use Rattle.refusals.proofs.Outcomes.{passed_on, number-positive}
use Rattle.track.proofs.Accepted.{by_shape, by_lock, by_numbers}
use Rattle.track.proofs.track_judge.Goals as goal

pub returns-in_err-shaped-clause-refused : goal.returns-in_err-shaped-clause-refused
returns-in_err-shaped-clause-refused c =
    let e : number_of c.from_residual.result ≡ number c.in_err-shaped.field-0.0 = search (rules, passed_on) in
    rw e (by_shape _ _ _ _ _ _ c.in_err-shaped.ensures.refused (number-positive _))

pub returns-then-not-lockable-clause-refused : goal.returns-then-not-lockable-clause-refused
returns-then-not-lockable-clause-refused c = by_lock _ _ _ _ _ _ c.in_ok-shaped.ensures.refused c.lockable.ensures c.if-not-lockable.true

pub returns-in_err-judge_numbers-clause-refused : goal.returns-in_err-judge_numbers-clause-refused
returns-in_err-judge_numbers-clause-refused c =
    let e : number_of c.from_residual-in_err-judge_numbers.result ≡ number c.in_err-judge_numbers.field-0.0 = search (rules, passed_on) in
    rw e (by_numbers _ _ _ _ _ _ c.in_ok-shaped.ensures.refused c.lockable.ensures c.if-not-lockable.false c.in_err-judge_numbers.ensures)

pub returns-clause-refused : goal.returns-clause-refused
returns-clause-refused c = by_numbers _ _ _ _ _ _ c.in_ok-shaped.ensures.refused c.lockable.ensures c.if-not-lockable.false c.in_ok-judge_numbers.ensures
