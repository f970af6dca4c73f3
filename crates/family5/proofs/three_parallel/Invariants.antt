-- For each pair the answers of `at_q15`.
use Rattle.families_shared.proofs.Gathered.{Gathered}
use Rattle.family5.specs.ThreeParallel.{at_q15}
use Rattle.family5.proofs.three_parallel.Given as goal

abbrev pub invariant-loop-q15 : goal.invariant-loop-q15
invariant-loop-q15 l = Gathered (at_q15 l.r_06 l.arm.kin l.arm.tolerance l.p) l.q15-items 2 l.q15-index l.all.items
