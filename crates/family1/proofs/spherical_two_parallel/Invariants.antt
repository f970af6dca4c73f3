-- For each q1 the answers of `at_q1`.
use Rattle.families_shared.proofs.Gathered.{Gathered}
use Rattle.family1.specs.SphericalTwoParallel.{at_q1}
use Rattle.family1.proofs.spherical_two_parallel.Given as goal

abbrev pub invariant-loop-q1 : goal.invariant-loop-q1
invariant-loop-q1 l =
    Gathered (at_q1 l.r_0t l.p_0t l.arm.kin l.arm.tolerance l.t.is_ls) l.q1-items 4 l.q1-index l.all.items
