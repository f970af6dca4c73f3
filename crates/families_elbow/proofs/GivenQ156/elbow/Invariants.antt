-- For each q3 the answer of `elbow_q3`.
use mathlib.Core.Bool.{◌||◌}
use Rattle.families_shared.proofs.Gathered.{Gathered}
use Rattle.families_elbow.specs.Elbow.{elbow_q3}
use Rattle.families_elbow.proofs.GivenQ156.elbow.Given as goal

abbrev pub invariant-loop-q3 : goal.invariant-loop-q3
invariant-loop-q3 l =
    Gathered (elbow_q3 l.arm.kin l.arm.tolerance l.self.d_inner l.self.theta14 l.self.q1 l.self.q5 l.self.q6 (l.self.is_ls || l.t.is_ls)) l.q3-items 1 l.q3-index l.all.items
