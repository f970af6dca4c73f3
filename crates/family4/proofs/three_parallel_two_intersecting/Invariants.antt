-- For each q1 the answers of `at_q1`.
use Rattle.families_shared.proofs.Gathered.{Gathered}
use Rattle.family4.specs.ThreeParallelTwoIntersecting.{at_q1}
use Rattle.family4.proofs.three_parallel_two_intersecting.Given as goal

abbrev pub invariant-loop-q1 : goal.invariant-loop-q1
invariant-loop-q1 l =
    Gathered (at_q1 l.r_06 l.arm.kin l.arm.tolerance l.p l.t.is_ls) l.q1-items 4 l.q1-index l.all.items
