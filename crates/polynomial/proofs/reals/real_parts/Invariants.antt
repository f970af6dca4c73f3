-- The loop keeps `Kept`.
use Rattle.polynomial.proofs.Filter.{Kept}
use Rattle.polynomial.proofs.reals.real_parts.Given as goal

abbrev pub invariant-loop-z : goal.invariant-loop-z
invariant-loop-z l = Kept l.epsilon l.z-items l.reals.items l.z-index
