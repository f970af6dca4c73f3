-- 10 first, then 4 to 6, then 7 and 8.
use Rattle.std.proofs.Common.{rules, ◌≡◌}
use Rattle.refusals.specs.Refusal.{number, number_of}
use Rattle.refusals.proofs.Outcomes.{passed_on, number-positive}
use Rattle.solve.proofs.Accepted.{no_unnamed, by_limits, by_shape, by_judge, judged_numbers, task_is}
use Rattle.solve.proofs.judged.Goals as goal

pub returns-in_err-limits-clause-refused : goal.returns-in_err-limits-clause-refused
returns-in_err-limits-clause-refused c =
    let e : number_of c.from_residual.result ≡ number c.in_err-limits.field-0.0 = search (rules, passed_on) in
    rw e (by_limits _ _ _ _ _ c.in_err-limits.ensures.refused (number-positive _))

pub returns-in_err-shaped-clause-refused : goal.returns-in_err-shaped-clause-refused
returns-in_err-shaped-clause-refused c =
    let e : number_of c.from_residual-in_err-shaped.result ≡ number c.in_err-shaped.field-0.0 = search (rules, passed_on) in
    rw e (by_shape _ _ _ _ _ c.in_ok-limits.ensures.refused c.in_err-shaped.ensures.refused (number-positive _))

pub returns-in_err-judge_numbers-clause-refused : goal.returns-in_err-judge_numbers-clause-refused
returns-in_err-judge_numbers-clause-refused c =
    let e : number_of c.from_residual-in_err-judge_numbers.result ≡ number c.in_err-judge_numbers.field-0.0 = search (rules, passed_on) in
    rw e (by_judge _ _ _ _ _ c.in_ok-limits.ensures.refused (judged_numbers _ _ _ _ c.in_ok-shaped.ensures.refused c.in_err-judge_numbers.ensures))

pub returns-in_err-known-clause-refused : goal.returns-in_err-known-clause-refused
returns-in_err-known-clause-refused c = no_unnamed _ _ _ _ _ c.in_ok-shaped.ensures.refused c.in_ok-judge_numbers.ensures c.in_err-known.ensures

pub returns-clause-refused : goal.returns-clause-refused
returns-clause-refused c = by_judge _ _ _ _ _ c.in_ok-limits.ensures.refused (judged_numbers _ _ _ _ c.in_ok-shaped.ensures.refused c.in_ok-judge_numbers.ensures)

pub returns-clause-task : goal.returns-clause-task
returns-clause-task c =
    let z = by_judge _ _ _ _ _ c.in_ok-limits.ensures.refused (judged_numbers _ _ _ _ c.in_ok-shaped.ensures.refused c.in_ok-judge_numbers.ensures) in
    task_is _ _ _ _ _ z c.in_ok-known.ensures c.in_ok-shaped.ensures.arm c.in_ok-shaped.ensures.pose c.new-task.ensures
