-- Refused, or the first answer of the filtered list.
use Rattle.std.proofs.lemmas.Result.{err_from_is_err_and}
use Rattle.one_answer.proofs.Chosen.{by_refusal, gives}
use Rattle.one_answer.proofs.solve_one.Goals as goal

pub returns-in_err-task : goal.returns-in_err-task
returns-in_err-task c =
    let p = err_from_is_err_and c.from_residual.result c.from_residual.ensures.1 in
    by_refusal _ _ _ _ _ p.0 p.1 (rw p.2 c.in_err-task.ensures.refused)

pub returns : goal.returns
returns c = gives _ _ _ _ _ c.in_ok-task.ensures.refused c.in_ok-task.ensures.task c.in_ok-task.ensures.limits c.find_one.ensures c.ok_or.ensures.value
