-- Refused with nothing written, or the answers of the arm that is left as sevens.
use Rattle.std.proofs.Common.{◌∙◌}
use Rattle.refusals.proofs.Outcomes.{number-positive}
use Rattle.track.proofs.Solves.{result-refused, angles-refused, flags-refused, result-solved}
use Rattle.track.proofs.solve_track.Goals as goal

pub returns-in-Err-clause-result : goal.returns-in-Err-clause-result
returns-in-Err-clause-result c = c.refuse.ensures ∙ result-refused _ _ _ _ _ _ _ _ c.in-Err.ensures.refused (number-positive _)

pub returns-in-Err-clause-angles : goal.returns-in-Err-clause-angles
returns-in-Err-clause-angles c = angles-refused _ _ _ _ _ _ _ _ c.in-Err.ensures.refused (number-positive _)

pub returns-in-Err-clause-flags : goal.returns-in-Err-clause-flags
returns-in-Err-clause-flags c = flags-refused _ _ _ _ _ _ _ _ c.in-Err.ensures.refused (number-positive _)

pub returns-clause-result : goal.returns-clause-result
returns-clause-result c = c.solve_left.ensures.result ∙ result-solved _ _ _ _ _ _ _ c.in-Ok.ensures.refused c.in-Ok.ensures.task _
