-- For each q3 the answers of `at_q3`.
use Rattle.families_shared.proofs.Gathered.{Gathered}
use Rattle.family1.specs.SphericalTwoParallel.{at_q3}
use Rattle.family1.proofs.at_q1.Given as goal

abbrev pub invariant-loop-q3 : goal.invariant-loop-q3
invariant-loop-q3 l =
    Gathered (at_q3 l.fn.r_0t l.arm.kin l.arm.tolerance l.given.p_13 l.q1 l.q1_is_ls l.t.is_ls) l.q3-items 2 l.q3-index l.all.items
