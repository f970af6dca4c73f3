-- Of each answer so far, what `put_seven` writes.
use Rattle.answers.proofs.RowSteps.{StepsOf}
use Rattle.full_list.specs.Listed.{listed}
use Rattle.track.specs.Sevens.{sevens}
use Rattle.track.proofs.SevenRows.{one}
use Rattle.track.proofs.write_sevens.Given as goal

abbrev pub invariant-loop-k : goal.invariant-loop-k
invariant-loop-k l = StepsOf (sevens l.lock.joint l.lock.angle) one (listed l.list) l.k-end 1 l.initial.angles l.initial.flags l.angles l.flags l.count l.k
