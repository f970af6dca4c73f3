-- `judge`: refusals 4 to 6, then 7 and 8.
use Rattle.std.proofs.Common.{rules, ◌≡◌, ◌∙◌}
use Rattle.refusals.specs.Refusal.{number, number_of}
use Rattle.refusals.proofs.Outcomes.{passed_on, number-positive}
use Rattle.refusals.proofs.Judged.{judge_refused, judge_accepted}
use Rattle.refusals.proofs.judge.Goals as goal

pub returns-in_err-judge_shape : goal.returns-in_err-judge_shape
returns-in_err-judge_shape c = let e : number_of c.from_residual.result ≡ number c.in_err-judge_shape.field-0.0 = search (rules, passed_on) in rw (e, c.in_err-judge_shape.ensures.refused) (judge_refused _ _ _ _ (rw c.in_err-judge_shape.ensures.refused at (number-positive c.in_err-judge_shape.field-0.0)))

pub returns : goal.returns
returns c = c.judge_numbers.ensures ∙ judge_accepted _ _ _ _ (search rules)
