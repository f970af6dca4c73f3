-- For each triple the answers of `at_q123`.
use Rattle.families_shared.proofs.Gathered.{Gathered}
use Rattle.family3.specs.Spherical.{at_q123}
use Rattle.family3.proofs.spherical.Given as goal

abbrev pub invariant-loop-q123 : goal.invariant-loop-q123
invariant-loop-q123 l = Gathered (at_q123 l.r_06 l.arm.kin l.arm.tolerance) l.q123-items 2 l.q123-index l.all.items
