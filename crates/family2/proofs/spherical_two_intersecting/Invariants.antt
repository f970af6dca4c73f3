-- For each q3 the answers of `at_q3`.
use Rattle.families_shared.proofs.Gathered.{Gathered}
use Rattle.family2.specs.SphericalTwoIntersecting.{at_q3}
use Rattle.family2.proofs.spherical_two_intersecting.Given as goal

abbrev pub invariant-loop-q3 : goal.invariant-loop-q3
invariant-loop-q3 l =
    Gathered (at_q3 l.r_0t l.arm.kin l.arm.tolerance l.p l.t.is_ls) l.q3-items 4 l.q3-index l.all.items
