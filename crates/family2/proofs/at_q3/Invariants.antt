-- For each pair the answers of `at_q12`.
use Rattle.families_shared.proofs.Gathered.{Gathered}
use Rattle.family2.specs.SphericalTwoIntersecting.{at_q12}
use Rattle.family2.proofs.at_q3.Given as goal

abbrev pub invariant-loop-q12 : goal.invariant-loop-q12
invariant-loop-q12 l =
    Gathered (at_q12 l.fn.r_0t l.arm.kin l.arm.tolerance l.q3 l.is_ls) l.q12-items 2 l.q12-index l.all.items
