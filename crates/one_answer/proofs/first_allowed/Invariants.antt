-- None of the first k is inside.
use Rattle.std.proofs.Common.{◌≡◌, drop}
use Rattle.full_list.specs.Listed.{listed}
use Rattle.one_answer.specs.First.{first_allowed}
use Rattle.one_answer.proofs.first_allowed.Given as goal

abbrev pub invariant-loop-k : goal.invariant-loop-k
invariant-loop-k l = first_allowed l.limits.stops.now (drop l.k (listed l.list)) ≡ first_allowed l.limits.stops.now (listed l.list)
