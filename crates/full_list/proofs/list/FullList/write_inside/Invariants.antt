-- Of each answer so far, what `put` writes.
use Rattle.limits.proofs.Each.{Written}
use Rattle.full_list.specs.Listed.{listed}
use Rattle.full_list.proofs.list.FullList.write_inside.Given as goal

abbrev pub invariant-loop-k : goal.invariant-loop-k
invariant-loop-k l = Written l.limits.stops.now (listed l.self) l.k-end l.initial.angles l.initial.flags l.angles l.flags l.count l.k
