-- Family 3: spherical of inverse_kinematics/mod.rs. The answers in the Rust's order; a definition for the body of each `for` says what it
-- pushes. subproblem5 gives no flag.
-- The tolerance of subproblem1's flag is handed down. The Rust's kin.h.column(0) is h1 here, its kin.p.column(0) is p0.
use Rattle.std.specs.Prelude.{false, List, flat_map, Float}
use Rattle.linear.specs.Matrix.{Matrix}
use Rattle.linear.specs.Vector.{negᵛ}
use Rattle.linear.specs.declared.vector.Vector3.{Vector3}
use Rattle.solutionset.specs.SolutionSet4.{get_all}
use Rattle.solutionset.specs.declared.Triple.{Triple}
use Rattle.solutionset.specs.declared.set4.SolutionSet4.{SolutionSet4}
use Rattle.subproblem5.specs.Subproblem5.{subproblem5}
use Rattle.kinematics.specs.declared.Kinematics.{Kinematics}
use Rattle.answers.specs.declared.Answer.{Answer}
use Rattle.families_shared.specs.Place.{p_16}
use Rattle.families_wrist.specs.Wrist.{r_36, wrist}

unfoldable pub t123 : Kinematics → Vector3 → SolutionSet4 Triple
t123 kin p_16 = subproblem5 (negᵛ kin.p1) p_16 kin.p2 kin.p3 (negᵛ kin.h1) kin.h2 kin.h3

-- for (q1, q2, q3) in t123.get_all()
unfoldable pub at_q123 : Matrix → Kinematics → Float → Triple → List Answer
unfolding r_36 wrist
at_q123 r_06 kin tolerance q123 =
    let q1 = q123.first in
    let q2 = q123.second in
    let q3 = q123.third in
    wrist kin tolerance (r_36 r_06 kin q1 q2 q3) q1 q2 q3 false

unfoldable pub spherical : Matrix → Vector3 → Kinematics → Float → List Answer
unfolding p_16 t123 at_q123
spherical r_06 p_0t kin tolerance = flat_map (at_q123 r_06 kin tolerance) (get_all (t123 kin (p_16 r_06 p_0t kin)))
