-- The first k answers of those that fit are written.
use Rattle.std.proofs.Common.{take}
use Rattle.answers.specs.Written.{Wrote}
use Rattle.answers.proofs.write.Given as goal

abbrev pub invariant-loop-k : goal.invariant-loop-k
invariant-loop-k l = Wrote (take l.k l.q-items) l.initial.angles l.initial.flags l.angles l.flags l.k
