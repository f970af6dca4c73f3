-- Of each answer so far, what `put` writes.
use Rattle.answers.specs.Held.{held}
use Rattle.limits.proofs.Each.{Written}
use Rattle.limits.proofs.write_allowed.Given as goal

abbrev pub invariant-loop-k : goal.invariant-loop-k
invariant-loop-k l = Written l.limits (held l.n l.numbers l.bytes) l.n l.initial.angles l.initial.flags l.angles l.flags l.count l.k
