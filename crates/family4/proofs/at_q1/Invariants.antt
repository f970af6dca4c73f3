-- For each q5 the answers of `at_q5`.
use Rattle.linear.specs.Matrix.{rot}
use Rattle.families_shared.proofs.Gathered.{Gathered}
use Rattle.family4.specs.ThreeParallelTwoIntersecting.{at_q5}
use Rattle.family4.proofs.at_q1.Given as goal

abbrev pub invariant-loop-q5 : goal.invariant-loop-q5
invariant-loop-q5 l =
    Gathered (at_q5 l.fn.r_06 l.arm.kin l.arm.tolerance l.fn.p_16 (rot l.arm.kin.h1 l.q1) l.q1 l.theta1_is_ls l.t.is_ls) l.q5-items 2 l.q5-index l.all.items
