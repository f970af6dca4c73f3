-- Refused with nothing written, or the answers inside the limits.
use Rattle.std.proofs.Common.{◌∙◌, rules}
use Rattle.answers.specs.Written.{room}
use Rattle.refusals.proofs.Outcomes.{number-positive}
use Rattle.solve.proofs.Solves.{result-refused, angles-refused, flags-refused, result-solved, angles-solved, flags-solved}
use Rattle.solve.proofs.solve.Goals as goal

pub returns-in-Err-clause-result : goal.returns-in-Err-clause-result
returns-in-Err-clause-result c = c.refuse.ensures ∙ result-refused _ _ _ _ _ _ _ c.in-Err.ensures.refused (number-positive _)

pub returns-in-Err-clause-angles : goal.returns-in-Err-clause-angles
returns-in-Err-clause-angles c = angles-refused _ _ _ _ _ _ _ c.in-Err.ensures.refused (number-positive _)

pub returns-in-Err-clause-flags : goal.returns-in-Err-clause-flags
returns-in-Err-clause-flags c = flags-refused _ _ _ _ _ _ _ c.in-Err.ensures.refused (number-positive _)

pub returns-clause-result : goal.returns-clause-result
returns-clause-result c =
    let t = c.in-Ok.ensures in
    let solved = result-solved _ _ _ _ _ t.refused t.task t.limits c.with_list.ensures.1 (room c.args.angles.now c.args.flags.now) in
    search (rules, solved)

pub returns-clause-angles : goal.returns-clause-angles
returns-clause-angles c =
    let t = c.in-Ok.ensures in
    let solved = angles-solved _ _ _ _ _ t.refused t.task t.limits c.with_list.ensures.1 c.args.angles.now c.args.flags.now in
    search (rules, solved)

pub returns-clause-flags : goal.returns-clause-flags
returns-clause-flags c =
    let t = c.in-Ok.ensures in
    let solved = flags-solved _ _ _ _ _ t.refused t.task t.limits c.with_list.ensures.1 c.args.angles.now c.args.flags.now in
    search (rules, solved)
