-- Family 2: spherical_two_intersecting of inverse_kinematics/mod.rs. The answers in the Rust's order; a definition for the body of each `for`
-- says what it pushes.
-- The tolerance of subproblem1's flag is handed down. The Rust's kin.h.column(0) is h1 here, its kin.p.column(0) is p0.
use Rattle.std.specs.Prelude.{Bool, ◌||◌, List, flat_map, Float}
use Rattle.linear.specs.Matrix.{Matrix, apply, rot}
use Rattle.linear.specs.Vector.{norm, ◌+ᵛ◌, ◌-ᵛ◌, negᵛ}
use Rattle.linear.specs.declared.vector.Vector3.{Vector3}
use Rattle.solutionset.specs.SolutionSet2.{get_all}
use Rattle.solutionset.specs.declared.Pair.{Pair}
use Rattle.subproblems.specs.Subproblem2.{subproblem2}
use Rattle.subproblems.specs.Subproblem3.{subproblem3}
use Rattle.subproblems.specs.declared.Solved2.{Solved2}
use Rattle.kinematics.specs.declared.Kinematics.{Kinematics}
use Rattle.answers.specs.declared.Answer.{Answer}
use Rattle.families_wrist.specs.Wrist.{r_36, wrist}

-- p_0t - r_0t * kin.p.column(6) - kin.p.column(0)
unfoldable pub p_16 : Matrix → Vector3 → Kinematics → Vector3
p_16 r-0t p_0t kin = p_0t -ᵛ apply r-0t kin.p6 -ᵛ kin.p0

-- (t3, t3_is_ls)
unfoldable pub t3 : Kinematics → Vector3 → Solved2 Float
t3 kin p_16 = subproblem3 kin.p3 (negᵛ kin.p2) kin.h3 (norm p_16)

-- (t12, t12_is_ls)
unfoldable pub t12 : Kinematics → Vector3 → Float → Solved2 Pair
t12 kin p_16 q3 = subproblem2 p_16 (kin.p2 +ᵛ apply (rot kin.h3 q3) kin.p3) (negᵛ kin.h1) kin.h2

-- for (q1, q2) in t12.get_all()
unfoldable pub at_q12 : Matrix → Kinematics → Float → Float → Bool → Pair → List Answer
unfolding r_36 wrist
at_q12 r-0t kin tolerance q3 is-ls q12 =
    let q1 = q12.first in
    let q2 = q12.second in
    wrist kin tolerance (r_36 r-0t kin q1 q2 q3) q1 q2 q3 is-ls

-- for q3 in t3.get_all()
unfoldable pub at_q3 : Matrix → Kinematics → Float → Vector3 → Bool → Float → List Answer
unfolding t12 at_q12
at_q3 r-0t kin tolerance p_16 t3-is-ls q3 =
    let t = t12 kin p_16 q3 in
    flat_map (at_q12 r-0t kin tolerance q3 (t3-is-ls || t.is_ls)) (get_all t.set)

unfoldable pub spherical_two_intersecting : Matrix → Vector3 → Kinematics → Float → List Answer
unfolding p_16 t3 at_q3
spherical_two_intersecting r-0t p_0t kin tolerance =
    let p = p_16 r-0t p_0t kin in
    let t = t3 kin p in
    flat_map (at_q3 r-0t kin tolerance p t.is_ls) (get_all t.set)
